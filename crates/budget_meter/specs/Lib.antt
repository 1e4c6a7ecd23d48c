pub mod Kinds
pub mod Costs
pub mod Meter
