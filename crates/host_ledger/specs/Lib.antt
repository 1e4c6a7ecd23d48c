pub mod Worlds
pub mod Answered
pub mod Accessed
pub mod Storing
pub mod Rows
pub mod Called
pub use Rattle.host_acts.specs.Spelled
pub use Rattle.host_acts.specs.Traced
