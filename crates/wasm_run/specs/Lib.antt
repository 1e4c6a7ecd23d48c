pub mod Able
pub mod Begun
pub mod Laws
pub mod Lending
pub mod Suspended
pub mod SuspendedCode
pub mod Traps
