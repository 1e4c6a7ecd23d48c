mod Arguments
mod Beginning
mod Counting
mod Counts
mod Framing
mod Joining
pub mod Lemmas
mod Lending
mod Meeting
mod Showing
mod Splitting
mod Stepping
mod Undoing
