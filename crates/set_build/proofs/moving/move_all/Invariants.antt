use Rattle.std.proofs.Common.{◌≡◌, length}
use Rattle.set_build.specs.Moved.{shown}
use Rattle.set_build.proofs.Moves.{AreMoved}
use Rattle.set_build.proofs.moving.move_all.Given as goal

abbrev pub invariant-loop-envelope : goal.invariant-loop-envelope
invariant-loop-envelope l = (l.number ≡ length l.yielded) × AreMoved l.fn.envelopes.items l.places l.yielded (shown l.stages)
