mod Counts
mod Groups
mod Steps
