use Rattle.std.proofs.Common.{◌≡◌, true, ◌∙◌, ap}
use Rattle.clap.specs.Simple.{Shape, app_of, app_of_fields, on_top}
use Rattle.why_words.proofs.command.named_command.Goals as goal

pub returns : goal.returns
returns c =
    let versioned : app_of c.version.result ≡ on_top (λ (s : Shape). record s { has_version = true }) (app_of c.new.result) = ap app_of_fields c.version.ensures in
    let told : app_of c.about.result ≡ app_of c.version.result = ap app_of_fields c.about.ensures in
    let unnamed : app_of c.no_binary_name.result ≡ on_top (λ (s : Shape). record s { no_binary_name = true }) (app_of c.about.result) = ap app_of_fields c.no_binary_name.ensures in
    unnamed ∙ ap (on_top (λ (s : Shape). record s { no_binary_name = true })) (told ∙ versioned ∙ ap (on_top (λ (s : Shape). record s { has_version = true })) c.new.ensures.app)
