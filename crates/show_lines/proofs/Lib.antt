mod Depths
mod LineLaws
