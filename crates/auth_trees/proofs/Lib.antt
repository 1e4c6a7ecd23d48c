mod Authorities
mod Choosing
mod Deepest
mod Keeping
mod Later
pub mod Lemmas
mod Listing
mod Lists
mod Spots
mod Walking
