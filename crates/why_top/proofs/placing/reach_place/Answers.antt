use Rattle.std.proofs.Common.{refl}
use Rattle.why_top.proofs.Reached.{some_there, none_there}
use Rattle.why_top.proofs.placing.reach_place.Goals as goal

pub returns-in-Ok-Some-clause-there : goal.returns-in-Ok-Some-clause-there
returns-in-Ok-Some-clause-there c =
    some_there c.places_are_reported.ensures.place c.args.ledger.header c.args.verdicts.now c.args.ledger.entries c.args.set.now c.args.close_time c.args.place _
    (rw c.in-Ok-Some.field-0-is at c.in-Ok-Some.ensures.met)

pub returns-in-Ok-None-clause-refused : goal.returns-in-Ok-None-clause-refused
returns-in-Ok-None-clause-refused c = (
  refl,
  c.in-Ok-None.ensures.free,
  none_there c.places_are_reported.ensures.place c.args.ledger.header c.args.verdicts.now c.args.ledger.entries c.args.set.now c.args.close_time c.args.place
      (rw c.in-Ok-None.field-0-is at c.in-Ok-None.ensures.met),
)

pub returns-in_ok-key-in-Err-Conflict-clause-refused : goal.returns-in_ok-key-in-Err-Conflict-clause-refused
returns-in_ok-key-in-Err-Conflict-clause-refused c =
    let refused = rw c.in-Err-Conflict.field-0-is at c.in-Err-Conflict.ensures.refused in
    rw (c.in_ok-key-in-Err-Conflict.ensures.bytes-is, c.in-Err-Conflict.field-0-is) refused.0
