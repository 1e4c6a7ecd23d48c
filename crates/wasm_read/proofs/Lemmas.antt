-- The lemmas that other crates cite.
pub use Rattle.wasm_read.proofs.ModuleLaws.{module_again, module_takes}
