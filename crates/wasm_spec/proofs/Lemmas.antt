-- The lemmas that other crates cite.
pub use Rattle.wasm_spec.proofs.RunLaws.{IsWhole, executed_spends, interp_whole}
pub use Rattle.wasm_spec.proofs.Sound.{CallGood, HasTypes, same_types_are}
pub use Rattle.wasm_spec.proofs.SoundCalls.{own_function}
pub use Rattle.wasm_spec.proofs.SoundStart.{Begins, begins, meaning_good}
pub use Rattle.wasm_spec.proofs.Spends.{charged_later, later, same}
pub use Rattle.wasm_spec.proofs.Sums.{sums_grow}
