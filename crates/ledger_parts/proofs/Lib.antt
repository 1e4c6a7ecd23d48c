mod Crosses
mod EnvelopeCrosses
mod Keys
pub mod Lemmas
mod Lists
mod Maps
mod Notes
mod Seen
mod Under
