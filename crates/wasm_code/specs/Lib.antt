pub mod Closed
pub mod Emitted
pub mod Ops
pub mod Placed
