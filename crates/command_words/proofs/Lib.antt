mod Names
mod Numbers
mod Parsing
