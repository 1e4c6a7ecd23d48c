mod Causes
mod Decoding
pub mod Lemmas
mod Pieces
mod PutTogether
mod Saying
mod Storing
