use Rattle.std.proofs.Common.{◌≡◌, length, All}
use Rattle.ledger_types.specs.Key.{key_format}
use Rattle.set_steps.specs.Pending.{awaiting, still_pending}
use Rattle.set_steps.proofs.pending.Pending.into_vec.Given as goal

abbrev pub invariant-loop-extension : goal.invariant-loop-extension
invariant-loop-extension l = record {
  counted : l.index ≡ length l.yielded;
  kept : l.pending.items ≡ still_pending (awaiting l.by_key) 0 l.yielded;
  left : All (λ e. key_format.fits e.key) l.extension-iterator.rest.items;
  spelled : All (λ e. key_format.fits e.key) l.pending.items;
}
