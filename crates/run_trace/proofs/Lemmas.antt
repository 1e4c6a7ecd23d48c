-- The lemmas that other crates cite.
pub use Rattle.run_trace.proofs.Seeing.{seen_none, seen_more, seen_limit}
pub use Rattle.run_trace.proofs.Showing.{shows_seen}
