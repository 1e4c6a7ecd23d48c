mod Counting
mod Due
mod Fitting
mod Holding
mod Ran
mod Reached
mod Seen
mod Steady
