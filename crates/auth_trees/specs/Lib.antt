pub mod Listed
pub mod Flat
pub mod Ready
pub mod Kept
pub mod Given
