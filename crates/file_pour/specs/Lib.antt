pub mod Poured
pub mod Reading
