use Rattle.std.specs.FinMap.{entries}
use Rattle.std.specs.Prelude.{IfSome}
use Rattle.std.specs.Option.{option_map}
use Rattle.ledger_types.specs.Key.{key_format}
use Rattle.stage_plan.specs.Spots.{spot_of}
use Rattle.stage_plan.proofs.Walks.{Walked}
use Rattle.stage_plan.proofs.meeting.least.Given as goal

abbrev pub invariant-loop-key : goal.invariant-loop-key
invariant-loop-key l = Walked (option_map spot_of l.best) l.key-iterator (entries l.met) × IfSome l.best (λ f. key_format.fits f.key.now)
