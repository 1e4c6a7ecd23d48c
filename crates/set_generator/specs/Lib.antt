pub mod RandomNumbers
pub mod GeneratedContracts
pub mod GeneratedSet
pub mod GeneratedLedger
pub mod Drawn
pub mod GeneratedFiles
