mod Declared
mod Ordered
