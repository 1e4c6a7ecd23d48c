mod Adding
mod Filtered
mod Fitting
