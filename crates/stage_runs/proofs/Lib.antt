mod Conflicts
mod Cuts
mod Declared
mod Frames
pub mod Lemmas
mod Orders
mod Owned
mod Parts
mod Pending
mod Points
mod Sets
mod Shown
mod Wholes
