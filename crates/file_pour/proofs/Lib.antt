mod Ended
mod Pouring
