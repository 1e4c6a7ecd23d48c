use Rattle.std.proofs.Common.{◌≡◌, take}
use Rattle.set_steps.proofs.Moved.{rest_of, put_over}
use Rattle.set_steps.proofs.moving.move_written.Given as goal

abbrev pub invariant-loop-envelope : goal.invariant-loop-envelope
invariant-loop-envelope l = record {
  from : l.from ≡ rest_of l.initial.from (take l.envelope-index l.envelopes);
  to : l.to ≡ put_over l.initial.from l.initial.to (take l.envelope-index l.envelopes);
}
