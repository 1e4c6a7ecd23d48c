mod Exact
pub mod Lemmas
