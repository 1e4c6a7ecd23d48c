use Rattle.std.proofs.Common.{ℕ, List, length, refl, ap, ◌∙◌, arith}
use Rattle.std.specs.List.{refill}
use Rattle.wasm_spec.specs.Stores.{Store, with_bytes}
use Rattle.wasm_machine.specs.Lending.{rewritten}
use Rattle.wasm_machine.specs.contracts.store.Store.{the_view}
use Rattle.wasm_machine.proofs.store.Store.memory_mut.Goals as goal

pub returns : goal.returns
returns c =
    let memory = c.self.inside.memory in
    let as_long = λ (w : List ℕ). ap (λ (n : ℕ). with_bytes (refill n memory.items w) (the_view c.self.inside)) memory.ok.0 in (
      (refl, λ w. as_long w ∙ ap (λ (s : Store). rewritten s w) c.self.view_is),
      record {
        writes_back = tt;
        value = c.deref_mut.ensures.value ∙ ap (λ (s : Store). s.memory.bytes) c.self.view_is;
        small = omega (arith, c.self.invariant.1, ap length c.deref_mut.ensures.value);
      },
    )
