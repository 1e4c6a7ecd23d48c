mod ArgumentBounds
mod ContextBounds
pub mod Lemmas
mod Making
mod NonceEntries
mod Passing
mod Rows
mod SignedBytes
mod Splitting
mod Steps
mod Verdicts
