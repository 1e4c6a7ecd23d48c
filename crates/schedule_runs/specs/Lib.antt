pub mod Schedule
pub mod Plans
pub mod Complete
pub mod Lanes
pub mod Refused
pub mod Laws
pub mod Stopped
