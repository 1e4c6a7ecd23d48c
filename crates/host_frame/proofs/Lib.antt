mod Acting
mod AllGiven
mod Decoding
mod Entering
mod Fitting
mod KeyLaws
pub mod Lemmas
mod Making
mod Resolving
