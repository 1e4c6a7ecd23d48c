use Rattle.std.proofs.Common.{◌++◌, sym, ap, ◌∙◌}
use Rattle.std.specs.Prelude.{is_some}
use Rattle.std.proofs.lemmas.List.{append-nil}
use Rattle.command_io.specs.Views.{targets_of}
use Rattle.soroban_top.specs.LogStored.{log_target}
use Rattle.soroban_top.proofs.apply.log_stored.Goals as goal

pub returns-in-None-clause-targets : goal.returns-in-None-clause-targets
returns-in-None-clause-targets c =
    let targets = targets_of c.args.product.stores.items in
    sym (append-nil targets) ∙ ap (λ o. targets ++ log_target (is_some o) c.args.name.now) (sym c.in-None.is)
