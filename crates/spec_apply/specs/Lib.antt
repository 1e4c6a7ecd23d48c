pub mod Naming
pub mod Runs
pub mod Moved
pub mod Passing
pub use Rattle.set_steps.specs.Logged
pub use Rattle.ledger_apply.specs.Refused
