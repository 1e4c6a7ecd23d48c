-- The lemmas that other crates cite.
pub use Rattle.set_generator.proofs.Entries.{entries_at_first, entries_next}
pub use Rattle.set_generator.proofs.LedgerFits.{code_fits, code_hashed, counter_fits, header_fits, instance_fits}
pub use Rattle.set_generator.proofs.SetFits.{generated_set_fits}
