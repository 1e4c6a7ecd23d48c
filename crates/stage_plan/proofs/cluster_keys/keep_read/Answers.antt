use Rattle.stage_plan.proofs.Clusters.{read_spelled}
use Rattle.stage_plan.proofs.cluster_keys.keep_read.Goals as goal

pub keep_all-requires : goal.keep_all-requires
keep_all-requires c =
    read_spelled c.args.cluster.now.envelopes c.as_slice-envelopes.result.now c.loop-envelope.envelope-index c.envelope-item.result c.read_only_of.result.now c.requires
    c.as_slice-envelopes.ensures c.loop-envelope-test.true c.envelope-item.is c.read_only_of.ensures
