pub mod LedgerLines
pub mod Parts
pub mod SetLines
