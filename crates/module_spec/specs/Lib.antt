pub mod Check
pub mod Linking
pub mod Loading
pub mod Outside
