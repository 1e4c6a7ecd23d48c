pub mod Bits
pub mod Scalars
