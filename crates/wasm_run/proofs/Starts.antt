-- Starts of calls.
use Rattle.std.proofs.Common.{◌≡◌, ℕ, zero, suc, ◌-◌, ◌*◌, ◌≤◌, true, false, List, [], ◌∷◌, length, map, Option, Some, refl, sym, ap, ◌∙◌, subst, arith}
use Rattle.std.specs.Prelude.{slice_get, reverse, replicate, is_some, IsSome, Result, Ok, Err, IfOk}
use Rattle.wasm_spec.specs.declared.values.Value.{Value}
use Rattle.wasm_spec.specs.declared.values.Value.TheVariants as value
use Rattle.wasm_spec.specs.declared.module.Function.{Function}
use Rattle.wasm_spec.specs.declared.module.Module.{Module}
use Rattle.wasm_spec.specs.Stores.{Store}
use Rattle.wasm_spec.specs.Meaning.{is_import}
use Rattle.wasm_spec.specs.Instances.{Ready, start_of}
use Rattle.wasm_spec.proofs.Lemmas.{begins, own_function}
use Rattle.wasm_code.specs.declared.step.FlatCode.{FlatCode}
use Rattle.wasm_code.specs.Placed.{IsCompiled}
use Rattle.wasm_machine.proofs.Lemmas.{function_at}
use Rattle.wasm_run.specs.Suspended.{Suspended}
use Rattle.wasm_run.specs.Able.{BeginsAt, BeginsIn, BeginsAs, Begins}

-- the index of a function that is no import

pub beyond : {A : Type 0} (xs : List A) (f : ℕ) → is_some (slice_get xs f) ≡ false → length xs ≤ f
beyond [] f e = omega arith
beyond (x ∷ xs) zero e = cc
beyond (x ∷ xs) (suc f) e = omega (arith, beyond xs f e)

-- the function and its code
abbrev pub OwnKnown : Module → FlatCode → ℕ → Type 0
OwnKnown m flat k = (own : Function) × (entry : ℕ) × (slice_get m.functions k ≡ Some own) × (slice_get flat.entries k ≡ Some entry)

pub own_known : (m : Module) (flat : FlatCode) (export : List ℕ) (n f : ℕ) (store : Store) → IsCompiled m flat → start_of m export n ≡ Ready f store → is_import m f ≡ false → OwnKnown m flat (f - length m.imports)
own_known m flat export n f store compiled e ib =
    let b = begins m export n f store e in
    let own = own_function m f b.type_ ib b.known in
    let at = function_at m flat m.functions flat.entries (f - length m.imports) own.0 compiled.functions own.1 in
    (own.0, at.0, own.1, at.1)

pub some_is : {A : Type 0} (o : Option A) (x : A) → o ≡ Some x → IsSome o
some_is o x e = subst IsSome (sym e) refl

-- zeros as arguments

pub zeros_are : (n : ℕ) → map value.I64 (replicate n 0) ≡ replicate n (value.I64 0)
zeros_are zero = refl
zeros_are (suc n) = ap (λ vs. value.I64 0 ∷ vs) (zeros_are n)

pub begins_import : (i : Suspended) (f n : ℕ) → is_import i.source f ≡ true → BeginsAt i (2 * f) (reverse (replicate n (value.I64 0))) [] → Begins i f (replicate n 0)
begins_import i f n it h =
    subst (λ x. BeginsAs x i f (replicate n 0)) (sym it) (subst (λ (x : List Value). BeginsAt i (2 * f) (reverse x) []) (sym (zeros_are n)) h)

pub begins_own : (i : Suspended) (f n k : ℕ) (values : List Value) → is_import i.source f ≡ false → k ≡ f - length i.source.imports → values ≡ replicate n (value.I64 0) → BeginsIn i k values → Begins i f (replicate n 0)
begins_own i f n k values ib ek ev h =
    subst (λ x. BeginsAs x i f (replicate n 0)) (sym ib)
    (subst (λ x. BeginsIn i x (map value.I64 (replicate n 0))) ek (subst (BeginsIn i k) (ev ∙ sym (zeros_are n)) h))

pub ok_map : {A E : Type 0} (P Q : A → Type 0) (r : Result A E) → IfOk r P → ((a : A) → P a → Q a) → IfOk r Q
ok_map P Q (Ok a) h go = go a h
ok_map P Q (Err e) h go = tt
