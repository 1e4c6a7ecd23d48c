use Rattle.std.proofs.Common.{map}
use Rattle.stage_plan.specs.Meetings.{AreKnown}
use Rattle.stage_plan.proofs.meeting.note_clusters.Given as goal

abbrev pub invariant-loop-number : goal.invariant-loop-number
invariant-loop-number l = AreKnown (map (λ c. c.envelopes) l.clusters) l.number l.met
