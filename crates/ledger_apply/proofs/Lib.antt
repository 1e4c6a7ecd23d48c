mod Crosses
mod Steps
