pub mod Pairs
pub mod Demands
pub mod Noted
pub mod Authorities
