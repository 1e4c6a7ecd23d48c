-- The lemmas that other crates cite.
pub use Rattle.apply_spec.proofs.Called.{call_effect, invoked_tells}
pub use Rattle.apply_spec.proofs.Exact.{extended_effect}
pub use Rattle.apply_spec.proofs.Framed.{step_framed}
pub use Rattle.apply_spec.proofs.Halves.{outcome_kept, smaller_traps}
pub use Rattle.apply_spec.proofs.Listed.{enforced_own, kept_run, same_decided}
pub use Rattle.apply_spec.proofs.Rising.{all_rising_of}
