-- The lemmas that other crates cite.
pub use Rattle.stage_runs.proofs.Conflicts.{free_from, none_from}
pub use Rattle.stage_runs.proofs.Declared.{AreSpelled, declared_spelled}
pub use Rattle.stage_runs.proofs.Frames.{change_untouched, cluster_untouched, kept_pass, put_untouched, transaction_frame}
pub use Rattle.stage_runs.proofs.Frames.{transaction_untouched}
pub use Rattle.stage_runs.proofs.Owned.{moved_run, owned_untouched, owned_view, unmoved, view}
pub use Rattle.stage_runs.proofs.Parts.{apart_unwritten, write_declared, written_is}
pub use Rattle.stage_runs.proofs.Points.{both_false, both_first, both_second, cases, found, found_kept, found_over, found_set}
pub use Rattle.stage_runs.proofs.Points.{left_false, left_true, longer, longer_at, never, one_true, or_else, or_none, right_false}
pub use Rattle.stage_runs.proofs.Points.{right_true, same}
pub use Rattle.stage_runs.proofs.Sets.{stopped_order}
pub use Rattle.stage_runs.proofs.Wholes.{enforced_framed}
