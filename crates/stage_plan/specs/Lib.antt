pub mod Spelled
pub mod Listed
pub mod Least
pub mod KeyMaps
pub mod DeclaredKeys
pub mod Meetings
pub mod Spots
