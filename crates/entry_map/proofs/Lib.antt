pub mod Lemmas
mod MapLaws
mod Places
mod Search
mod Sorted
mod Walk
