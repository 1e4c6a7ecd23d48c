mod Called
mod Exact
mod Fewer
mod Framed
mod Halves
pub mod Lemmas
mod Lengthened
mod Listed
mod Recording
mod Rising
mod Touching
mod Trapping
