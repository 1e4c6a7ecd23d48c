mod Arguments
mod Ending
mod Fitting
mod Footprints
pub mod Lemmas
mod Making
mod Needing
mod Recorded
mod Running
mod Simulation
mod Told
mod Watching
