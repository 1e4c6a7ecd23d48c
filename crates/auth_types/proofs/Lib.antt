pub mod Lemmas
mod Levels
mod Linked
mod Parts
mod Rows
mod Same
