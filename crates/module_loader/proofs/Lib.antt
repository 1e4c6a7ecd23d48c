mod Exact
mod Failing
mod Functions
mod Imports
pub mod Lemmas
