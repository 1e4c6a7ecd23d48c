mod Calling
mod Changing
mod Doing
mod Footprints
mod Going
mod Layers
mod Laying
pub mod Lemmas
mod Placing
mod Saving
mod Slotting
mod Tabling
mod Touching
mod Undoing
mod Widening
