mod Bounding
mod Children
mod Enough
mod Growing
mod Recording
