use Rattle.std.proofs.Common.{take}
use Rattle.set_build.specs.Built.{building}
use Rattle.set_build.specs.Known.{IsLast, ArePlanned}
use Rattle.set_build.proofs.plan.plan.Given as goal

abbrev pub invariant-loop-envelope : goal.invariant-loop-envelope
invariant-loop-envelope l =
    IsLast (building l.max_clusters (take l.envelope-index l.envelopes)).last l.last
    × ArePlanned l.max_clusters l.envelopes l.envelope-index l.places.items
