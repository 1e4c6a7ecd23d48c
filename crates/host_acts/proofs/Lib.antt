mod CodeReads
mod Composing
mod DataKeys
mod Emitting
mod EventLists
mod Linking
mod Living
mod Making
mod Putting
mod Spelling
mod Tracing
pub mod Lemmas
