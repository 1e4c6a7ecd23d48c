mod Among
mod Back
mod Fitting
mod Forward
mod Keys
pub mod Lemmas
mod Listed
mod Ordered
mod Regrouping
mod Sound
mod Written
