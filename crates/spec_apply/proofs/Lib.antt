mod Crosses
mod Moves
mod Names
mod Passes
