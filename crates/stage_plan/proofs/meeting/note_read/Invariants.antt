use Rattle.std.proofs.Common.{◌≡◌, false, take}
use Rattle.stage_plan.specs.DeclaredKeys.{read_keys}
use Rattle.stage_plan.specs.Meetings.{noted_all}
use Rattle.stage_plan.proofs.meeting.note_read.Given as goal

abbrev pub invariant-loop-envelope : goal.invariant-loop-envelope
invariant-loop-envelope l = l.met ≡ noted_all l.number false l.fn.met (read_keys (take l.envelope-index l.envelopes))
