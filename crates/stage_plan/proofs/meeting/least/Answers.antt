use Rattle.std.specs.FinMap.{entries}
use Rattle.std.specs.Option.{option_map}
use Rattle.stage_plan.specs.Spots.{spot_of}
use Rattle.stage_plan.proofs.Walks.{walked_more, walked_spelled}
use Rattle.stage_plan.proofs.meeting.least.Goals as goal

pub loop-key-preserved : goal.loop-key-preserved
loop-key-preserved c = (
  walked_more (option_map spot_of c.loop-key.best) (option_map spot_of c.lesser-best.result) c.loop-key.key-iterator (entries c.args.met.now) (c.in-Some.key.now, c.in-Some.meeting.now) c.next.new.self
      c.loop-key.invariant.0 c.in-Some.ensures.steps c.lesser-best.ensures.spot,
  c.lesser-best.ensures.spelled c.loop-key.invariant.1
      (walked_spelled (option_map spot_of c.loop-key.best) c.loop-key.key-iterator (entries c.args.met.now) (c.in-Some.key.now, c.in-Some.meeting.now) c.next.new.self c.loop-key.invariant.0 c.in-Some.ensures.steps),
)
