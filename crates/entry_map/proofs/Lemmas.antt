-- The lemmas that other crates cite.
pub use Rattle.entry_map.proofs.Walk.{kept_all, kept_item, kept_own, kept_row, row_all, row_more, row_none, rows_all, rows_more}
pub use Rattle.entry_map.proofs.Walk.{rows_none}
