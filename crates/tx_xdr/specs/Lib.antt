pub mod Operation
pub mod Soroban
pub mod Ext
pub mod Transaction
pub mod Envelope
pub mod Set
pub mod Hashes
pub mod Stages
