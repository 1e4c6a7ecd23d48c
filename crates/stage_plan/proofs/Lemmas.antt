-- The lemmas that other crates cite.
pub use Rattle.stage_plan.proofs.Clusters.{cluster_spelled, fold_more, read_spelled, split_last, take_all}
