pub mod Operations
pub mod Results
pub mod Report
pub use Rattle.invoke_types.specs.declared.success.SuccessPreimage
