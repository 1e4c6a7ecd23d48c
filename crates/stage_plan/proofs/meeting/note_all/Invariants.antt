use Rattle.std.proofs.Common.{◌≡◌, take}
use Rattle.stage_plan.specs.Meetings.{noted_all}
use Rattle.stage_plan.proofs.meeting.note_all.Given as goal

abbrev pub invariant-loop-key : goal.invariant-loop-key
invariant-loop-key l = l.met ≡ noted_all l.number l.writes l.fn.met (take l.key-index l.keys)
