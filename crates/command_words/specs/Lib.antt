pub mod Answers
pub mod Commands
pub mod Values
pub mod Words
