use Rattle.std.proofs.Common.{◌≡◌, true, ◌∙◌, ap}
use Rattle.clap.specs.Simple.{Shape, app_of, app_of_fields, on_top}
use Rattle.command_words.proofs.commands.bare_command.Goals as goal

pub returns : goal.returns
returns c =
    let named : app_of c.no_binary_name.result ≡ on_top (λ (s : Shape). record s { no_binary_name = true }) (app_of c.new.result) = ap app_of_fields c.no_binary_name.ensures in
    let no_flag : app_of c.disable_help_flag.result ≡ on_top (λ (s : Shape). record s { disable_help_flag = true }) (app_of c.no_binary_name.result) = ap app_of_fields c.disable_help_flag.ensures in
    let no_help : app_of c.disable_help_subcommand.result ≡ on_top (λ (s : Shape). record s { disable_help_subcommand = true }) (app_of c.disable_help_flag.result) = ap app_of_fields c.disable_help_subcommand.ensures in
    let required : app_of c.subcommand_required.result ≡ on_top (λ (s : Shape). record s { subcommand_required = true }) (app_of c.disable_help_subcommand.result) = ap app_of_fields c.subcommand_required.ensures in
    required ∙ ap (on_top (λ (s : Shape). record s { subcommand_required = true })) (no_help ∙ ap (on_top (λ (s : Shape). record s { disable_help_subcommand = true })) (no_flag ∙ ap (on_top (λ (s : Shape). record s { disable_help_flag = true })) (named ∙ ap (on_top (λ (s : Shape). record s { no_binary_name = true })) c.new.ensures.app)))
