pub mod Resolved
pub mod Held
pub mod KeyIndex
pub mod Answered
pub mod Made
