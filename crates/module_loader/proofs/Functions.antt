-- A function passes its test exactly where it is typed.
use Rattle.std.proofs.Common.{◌≡◌, ◌+◌, true, false, length, Option, Some, None, Err, refl}
use Rattle.std.specs.Prelude.{nat_le, slice_get, is_some}
use Rattle.std.proofs.lemmas.Bool.{leb-true}
use Rattle.wasm_spec.specs.declared.types.FuncType.{FuncType}
use Rattle.wasm_spec.specs.declared.module.Function.{Function}
use Rattle.wasm_spec.specs.declared.module.Module.{Module}
use Rattle.wasm_spec.specs.Binary.{locals_count}
use Rattle.wasm_spec.specs.Typing.{FunctionTyped, MOST_LOCALS, body_context, result_of}
use Rattle.module_spec.specs.Check.{Shape, body_check}
use Rattle.wasm_check.specs.declared.error.Fault.TheVariants.{Ill}
use Rattle.wasm_check.proofs.Lemmas.{Same, and_true, both_true, checked_typed, judged, many_locals, no_type}
use Rattle.module_spec.specs.Loading.{function_ok, has_type}
use Rattle.module_loader.proofs.Failing.{true_unless}

some_back : (o : Option Shape) → is_some o ≡ true → (s : Shape) × (o ≡ Some s)
some_back None e = absurd cc
some_back (Some s) e = (s, refl)

some_unless : (o : Option Shape) → (o ≡ None → ⊥) → is_some o ≡ true
some_unless None h = absurd (h refl)
some_unless (Some s) h = refl

by_type : (m : Module) (f : Function) (o : Option FuncType) → slice_get m.types f.type_index ≡ o → Same (has_type m f o) (FunctionTyped m f)
by_type m f None e = record { back = λ (h : false ≡ true). cc; on = λ typed. absurd (no_type m f e typed) }
by_type m f (Some t) e =
    let few = nat_le (length t.params + locals_count f.locals) MOST_LOCALS in
    let body = body_check (body_context m t f.locals) (result_of t) f.body in
    record {
      back = λ h.
          let both = and_true few (is_some body) h in
          let shape = some_back body both.1 in
          record { type_ = t; known = e; few_locals = leb-true _ _ both.0; body = checked_typed (body_context m t f.locals) f.body (result_of t) shape.0 shape.1 };
      on = λ typed.
          let is_few = true_unless few (λ l. many_locals m f t e l typed) in
          both_true few (is_some body) is_few (some_unless body (λ n. judged m f t (Err Ill) e is_few n typed));
    }

pub same_function : (m : Module) (f : Function) → Same (function_ok m f) (FunctionTyped m f)
same_function m f = by_type m f (slice_get m.types f.type_index) refl
