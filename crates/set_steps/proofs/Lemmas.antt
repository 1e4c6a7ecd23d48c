-- The lemmas that other crates cite.
pub use Rattle.set_steps.proofs.Back.{all_ended, all_keyed, back_entries, of_clusters, run_on_same}
pub use Rattle.set_steps.proofs.Crosses.{job_send}
pub use Rattle.set_steps.proofs.Cutting.{all_moved}
pub use Rattle.set_steps.proofs.Firsts.{clusters_listed, free_at}
pub use Rattle.set_steps.proofs.Jobs.{all_worked, can_all}
pub use Rattle.set_steps.proofs.Leading.{all_kept, log_fits, log_leads, stages_more, stages_none}
pub use Rattle.set_steps.proofs.Lists.{flat_map_one_more, fold_more, fold_more_of, if_ok, take_all, take_one_more}
pub use Rattle.set_steps.proofs.Moved.{passes}
pub use Rattle.set_steps.proofs.Noting.{adds_made, adds_none, adds_transaction, all_logged, all_sound, no_stage_log, stage_log}
pub use Rattle.set_steps.proofs.Spelling.{component_in, listed_spelled, one_cluster}
pub use Rattle.set_steps.proofs.Staging.{ended_as_cut, logged_as_cut}
