pub mod Refused
pub mod Final
pub use Rattle.tx_apply.specs.Done
pub use Rattle.tx_apply.specs.contracts.envelope.TxDone
