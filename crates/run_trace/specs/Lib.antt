pub mod Calls
pub mod Endings
pub mod Lines
pub mod Shown
pub mod Summed
pub mod Telling
