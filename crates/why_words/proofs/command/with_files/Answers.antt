use Rattle.std.proofs.Common.{◌≡◌, IfOk, subst, ap, ◌∙◌, codes}
use Rattle.clap.specs.Simple.{App, app_of}
use Rattle.why_words.specs.Options.{with_required}
use Rattle.why_words.proofs.command.with_files.Goals as goal

pub returns : goal.returns
returns c =
    let both = c.in_ok-command-2.ensures ∙ ap (with_required (codes "verdicts")) c.in_ok-command.ensures in
    subst (λ (a : App). IfOk c.with_required-3.result (λ r. app_of r ≡ with_required (codes "close-time") a)) both c.with_required-3.ensures
