pub mod Shown
pub mod Sees
pub mod Cut
pub mod Laws
pub mod Notes
