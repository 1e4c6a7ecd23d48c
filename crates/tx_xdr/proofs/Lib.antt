mod Fits
pub mod Lemmas
