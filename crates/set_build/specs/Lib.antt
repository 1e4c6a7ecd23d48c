pub mod Built
pub mod Placed
pub mod Known
pub mod Moved
pub mod Laws
