mod KeyLaws
pub mod Lemmas
mod Ranking
mod Widths
