mod Digests
mod FromFile
mod Judging
mod Keys
pub mod Lemmas
mod Refused
mod Starts
mod Steps
mod ToFile
mod Written
