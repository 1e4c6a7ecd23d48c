mod Items
pub mod Lemmas
mod Twice
