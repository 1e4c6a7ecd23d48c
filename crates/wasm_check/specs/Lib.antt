pub mod Checks
pub mod Contexts
pub mod Errors
pub mod Popped
