pub mod LedgerMap
pub mod Seen
pub mod States
pub mod Changes
pub mod ChangeLaws
pub mod LedgerFile
pub use Rattle.ledger_types.specs.Key
