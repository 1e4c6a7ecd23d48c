mod Growing
pub mod Lemmas
mod Placed
mod Reaching
