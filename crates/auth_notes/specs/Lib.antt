pub mod Indices
pub mod Recording
