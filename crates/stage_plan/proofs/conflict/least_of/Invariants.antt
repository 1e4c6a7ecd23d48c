use Rattle.std.specs.List.{fold}
use Rattle.std.specs.Option.{option_copied}
use Rattle.std.proofs.Common.{◌≡◌, take}
use Rattle.stage_plan.specs.Listed.{lesser_met}
use Rattle.stage_plan.proofs.conflict.least_of.Given as goal

abbrev pub invariant-loop-key : goal.invariant-loop-key
invariant-loop-key l = option_copied l.least ≡ fold (lesser_met l.first.envelopes l.second.envelopes) (option_copied l.fn.best) (take l.key-index l.keys)
