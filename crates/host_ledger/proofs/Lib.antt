mod Grouping
pub mod Lemmas
mod Naming
mod Rows
mod Stepping
mod Steps
mod Updating
