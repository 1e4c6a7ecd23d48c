mod Caps
mod Numbers
