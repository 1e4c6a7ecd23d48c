mod Bytes
mod Drawing
mod Entries
mod LedgerFits
pub mod Lemmas
mod Ranges
mod SetFits
