-- The lemmas that other crates cite.
pub use Rattle.schedule_runs.proofs.Few.{few_steps}
pub use Rattle.schedule_runs.proofs.Stopping.{whole_set}
