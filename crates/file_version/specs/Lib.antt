pub mod FileVersion
