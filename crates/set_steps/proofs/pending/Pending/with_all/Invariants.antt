use Rattle.std.proofs.Common.{◌≡◌, ◌++◌, All}
use Rattle.ledger_types.specs.Key.{key_format}
use Rattle.set_steps.proofs.pending.Pending.with_all.Given as goal

abbrev pub invariant-loop-extension : goal.invariant-loop-extension
invariant-loop-extension l = record {
  pending : l.pending ≡ l.initial.pending ++ l.yielded;
  left : All (λ e. key_format.fits e.key) l.extension-iterator.rest.items;
}
