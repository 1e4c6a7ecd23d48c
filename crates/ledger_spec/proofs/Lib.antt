mod Extends
mod Found
mod Keeping
pub mod Lemmas
mod Life
mod Makes
mod Puts
