mod CodeNumbers
mod Fits
pub mod Lemmas
