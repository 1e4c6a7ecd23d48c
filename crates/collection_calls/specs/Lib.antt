pub mod Found
pub mod Parts
pub mod Unpacked
pub mod Within
