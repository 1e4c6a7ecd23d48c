mod Bounds
mod EntryLaws
mod InstanceLaws
mod Joining
pub mod Lemmas
mod Making
mod Payloads
mod Reading
mod Stepping
mod Writing
