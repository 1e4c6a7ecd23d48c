-- The lemmas that other crates cite.
pub use Rattle.tx_results.proofs.Fits.{extend_fits, failed_fits, inner_failed_fits, inner_pair_fits, inner_success_fits}
pub use Rattle.tx_results.proofs.Fits.{invoke_fits, invoke_success_fits, malformed_fits, missing_operation_fits}
pub use Rattle.tx_results.proofs.Fits.{not_supported_fits, pair_fits, result_set_fits, soroban_invalid_fits, success_fits}
pub use Rattle.tx_results.proofs.Fits.{too_early_fits, too_late_fits, transaction_alone_fits}
