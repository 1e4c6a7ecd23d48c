pub mod Trees
pub mod Recorded
pub mod Agreed
