pub mod Shown
pub mod Refs
