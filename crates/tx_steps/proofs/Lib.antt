mod Adding
mod ByKey
mod Checked
mod Chosen
mod Effects
mod Extending
mod Fitting
mod Footprints
mod Keys
pub mod Lemmas
mod Mapped
mod Sums
