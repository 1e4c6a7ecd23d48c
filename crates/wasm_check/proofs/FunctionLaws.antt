-- A function is accepted exactly where it is typed.
use Rattle.std.proofs.Common.{◌≡◌, ◌+◌, ◌≤◌, true, false, [], length, Some, None, Result, Ok, Err, sym, ◌∙◌, subst}
use Rattle.std.specs.Prelude.{nat_le, slice_get, option_to_list}
use Rattle.std.proofs.lemmas.Bool.{leb-true, le-leb}
use Rattle.wasm_spec.specs.declared.types.FuncType.{FuncType}
use Rattle.wasm_spec.specs.declared.module.Function.{Function}
use Rattle.wasm_spec.specs.declared.module.Module.{Module}
use Rattle.wasm_spec.specs.Binary.{locals_count}
use Rattle.wasm_spec.specs.Typing.{FunctionTyped, CodeTyped, body_context, result_of, MOST_LOCALS}
use Rattle.wasm_check.specs.declared.error.Fault.{Fault}
use Rattle.wasm_check.specs.declared.error.Fault.TheVariants.{Ill, NoMemory}
use Rattle.module_spec.specs.Check.{body_check}
use Rattle.wasm_check.specs.Checks.{IsChecked}
use Rattle.wasm_check.specs.Errors.{Judges}
use Rattle.wasm_check.proofs.CheckLaws.{checked_typed, typed_checked}

module _ (m : Module) (f : Function) where
  -- the type of a typed function is the one that it names
  its_body : (t : FuncType) → slice_get m.types f.type_index ≡ Some t → FunctionTyped m f → (length t.params + locals_count f.locals ≤ MOST_LOCALS) × CodeTyped (body_context m t f.locals) f.body [] (option_to_list (result_of t))
  its_body t e h =
      let same : h.type_ ≡ t = some_is (sym h.known ∙ e) in
      subst (λ (t : FuncType). (length t.params + locals_count f.locals ≤ MOST_LOCALS) × CodeTyped (body_context m t f.locals) f.body [] (option_to_list (result_of t))) same (h.few_locals, h.body)
    where
      some_is : {a b : FuncType} → Some a ≡ Some b → a ≡ b
      some_is e = cc

  pub judged : (t : FuncType) (r : Result (Unit {0}) Fault) → slice_get m.types f.type_index ≡ Some t → nat_le (length t.params + locals_count f.locals) MOST_LOCALS ≡ true → IsChecked (body_check (body_context m t f.locals) (result_of t) f.body) r → Judges (FunctionTyped m f) r
  judged t (Ok u) e l h = record { type_ = t; known = e; few_locals = leb-true _ _ l; body = checked_typed (body_context m t f.locals) f.body (result_of t) h.0 h.1 }
  judged t (Err NoMemory) e l h = tt
  judged t (Err Ill) e l h = λ typed.
      let b = its_body t e typed in
      let c = typed_checked (body_context m t f.locals) f.body (result_of t) b.1 in
      let q : None ≡ Some c.0 = sym h ∙ c.1 in
      cc

  pub many_locals : (t : FuncType) → slice_get m.types f.type_index ≡ Some t → nat_le (length t.params + locals_count f.locals) MOST_LOCALS ≡ false → FunctionTyped m f → ⊥
  many_locals t e l typed =
      let b = its_body t e typed in
      let q : false ≡ true = sym l ∙ le-leb _ _ b.0 in
      cc

  pub no_type : slice_get m.types f.type_index ≡ None → FunctionTyped m f → ⊥
  no_type e typed = let q : None ≡ Some typed.type_ = sym e ∙ typed.known in cc
