use Rattle.std.proofs.Common.{◌≡◌, true, take}
use Rattle.stage_runs.specs.Runs.{written_keys}
use Rattle.stage_plan.specs.Meetings.{noted_all}
use Rattle.stage_plan.proofs.meeting.note_written.Given as goal

abbrev pub invariant-loop-envelope : goal.invariant-loop-envelope
invariant-loop-envelope l = l.met ≡ noted_all l.number true l.fn.met (written_keys (take l.envelope-index l.envelopes))
