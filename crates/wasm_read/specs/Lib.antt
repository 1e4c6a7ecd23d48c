pub mod Gives
pub mod Reading
pub mod Reads
pub mod Sections
