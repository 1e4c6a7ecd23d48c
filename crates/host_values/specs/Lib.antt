pub mod Rows
pub mod Called
