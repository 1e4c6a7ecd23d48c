-- The lemmas that other crates cite.
pub use Rattle.tx_xdr.proofs.Fits.{transaction_in_fits}
