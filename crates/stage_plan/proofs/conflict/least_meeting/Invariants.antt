use Rattle.std.specs.List.{fold, flat_map}
use Rattle.std.specs.Option.{option_copied}
use Rattle.std.proofs.Common.{◌≡◌, None, take}
use Rattle.stage_plan.specs.Listed.{lesser_met}
use Rattle.stage_plan.proofs.Least.{keys_of}
use Rattle.stage_plan.proofs.conflict.least_meeting.Given as goal

abbrev pub invariant-loop-envelope : goal.invariant-loop-envelope
invariant-loop-envelope l = option_copied l.best ≡ fold (lesser_met l.first.envelopes l.second.envelopes) None (flat_map keys_of (take l.envelope-index l.envelopes))
