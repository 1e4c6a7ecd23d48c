mod Characters
mod Ranges
mod Reading
mod Small
mod Unique
