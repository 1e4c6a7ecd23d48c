use Rattle.std.proofs.Common.{Option, IfSome, subst}
use Rattle.ledger_spec.specs.declared.Kept.{Kept}
use Rattle.ledger_spec.specs.LedgerMap.{key_bytes, IsKeptAt}
use Rattle.tx_steps.proofs.ByKey.{lies_at}
use Rattle.tx_steps.proofs.changes.find_changed.Goals as goal

pub returns-in-Some-now-clause-kept : goal.returns-in-Some-now-clause-kept
returns-in-Some-now-clause-kept g c =
    let bytes = key_bytes c.args.key.now in
    subst (λ (o : Option Kept). IfSome o (IsKeptAt bytes)) c.in-Some-now.is
    (lies_at c.args.changed.now.entries c.args.key.now c.in-Some.now.now c.requires.lie c.requires.fits c.in-Some.ensures.value)
