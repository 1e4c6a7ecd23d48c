mod Completing
mod Counting
mod Few
pub mod Lemmas
mod Moving
mod Staged
mod Stopping
