pub mod Rules
pub mod Records
pub mod Reading
pub mod FileOf
