mod Counts
mod Expressions
mod Fold
mod Starts
mod Suspends
mod Walks
