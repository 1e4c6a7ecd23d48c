use Rattle.stage_plan.proofs.Clusters.{written_spelled}
use Rattle.stage_plan.proofs.meeting.note_written.Goals as goal

pub note_all-requires : goal.note_all-requires
note_all-requires c =
    written_spelled c.args.cluster.now.envelopes c.as_slice-envelopes.result.now c.loop-envelope.envelope-index c.envelope-item.result c.read_write_of.result.now c.requires
    c.as_slice-envelopes.ensures c.loop-envelope-test.true c.envelope-item.is c.read_write_of.ensures
