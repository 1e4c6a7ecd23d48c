mod Crosses
pub mod Lemmas
mod Searches
