pub mod EventLists
pub mod Traced
pub mod Served
pub mod Answered
pub mod Spelled
pub mod Accessed
pub mod StorageTypes
