pub mod Lemmas
mod Seeing
mod Showing
