-- The lemmas that other crates cite.
pub use Rattle.wasm_check.proofs.CheckLaws.{checked_typed}
pub use Rattle.wasm_check.proofs.FunctionLaws.{judged, many_locals, no_type}
pub use Rattle.wasm_check.proofs.LinkLaws.{found_is, same_import}
pub use Rattle.wasm_check.proofs.OutsideLaws.{Same, outside_back, outside_on}
pub use Rattle.wasm_check.proofs.Passed.{and_true, both_true}
