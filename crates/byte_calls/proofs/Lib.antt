mod Editing
mod Hashing
mod Reading
