use Rattle.std.proofs.Common.{take}
use Rattle.set_steps.specs.Lives.{Covers}
use Rattle.set_steps.proofs.stage_end.keep_lives.Given as goal

abbrev pub invariant-loop-extension : goal.invariant-loop-extension
invariant-loop-extension l = Covers l.entries (take l.extension-index l.extensions) l.initial.lives.items l.lives.items
