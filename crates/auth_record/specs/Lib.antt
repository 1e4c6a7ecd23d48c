pub mod Children
pub mod Given
pub mod Views
pub use Rattle.tx_apply.specs.Done
pub use Rattle.tx_apply.specs.Simulating
