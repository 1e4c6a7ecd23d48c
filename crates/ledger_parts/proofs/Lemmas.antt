-- The lemmas that other crates cite.
pub use Rattle.ledger_parts.proofs.Crosses.{entry_send, kept_send, key_send, key_sync, map_send, map_sync}
pub use Rattle.ledger_parts.proofs.EnvelopeCrosses.{envelope_sync, extension_send, success_send}
pub use Rattle.ledger_parts.proofs.Keys.{read_both}
pub use Rattle.ledger_parts.proofs.Notes.{noted_append, noted_cut, noted_seen}
pub use Rattle.ledger_parts.proofs.Seen.{cut_clusters, found_left, seen_run}
