pub mod Steps
pub mod Started
pub mod Entered
