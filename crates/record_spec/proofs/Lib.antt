mod Accesses
mod Acts
mod Agree
mod Apart
mod Beside
mod Demanding
mod Frames
mod Grown
mod HostFunctions
pub mod Lemmas
mod Lists
mod Nonces
mod Placed
mod Rows
mod RunsRelated
mod Same
mod Trees
mod Unmetered
