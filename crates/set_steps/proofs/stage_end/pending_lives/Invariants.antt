use Rattle.std.proofs.Common.{take}
use Rattle.set_steps.specs.Lives.{Covers}
use Rattle.set_steps.specs.State.{pending_of}
use Rattle.set_steps.proofs.stage_end.pending_lives.Given as goal

abbrev pub invariant-loop-left : goal.invariant-loop-left
invariant-loop-left l = Covers l.entries (pending_of (take l.left-index l.done)) l.initial.lives.items l.lives.items
