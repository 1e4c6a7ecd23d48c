mod Counting
mod Finding
mod Joining
pub mod Lemmas
mod Prefixes
mod Spelling
