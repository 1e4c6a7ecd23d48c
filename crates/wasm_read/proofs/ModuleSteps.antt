-- The reader of modules, step by step.
use Rattle.std.proofs.Common.{◌≡◌, ◌≢◌, ℕ, zero, suc, ◌+◌, ◌<◌, ◌≤◌, Bool, true, false, List, [], ◌∷◌, ◌++◌, length, drop, get_or, Option, Some, None, Result, Err, refl, sym, ap, ap₂, ◌∙◌, subst, arith, length-append, append_assoc}
use Rattle.std.specs.Prelude.{◌==◌, reverse, if◌then◌else◌}
use Rattle.std.proofs.lemmas.Bool.{eqb-true}
use Rattle.std.proofs.lemmas.List.{reverse-append}
use Rattle.std.proofs.Math.Seq.{drop-cons}
use Rattle.wasm_spec.specs.declared.module.Locals.{Locals}
use Rattle.wasm_spec.specs.declared.module.Function.{Function}
use Rattle.wasm_spec.specs.Code.{Code}
use Rattle.wasm_spec.specs.Typing.{◌>>=◌}
use Rattle.wasm_read.specs.declared.error.ReadModErr.{ReadModErr}
use Rattle.wasm_read.specs.declared.error.ReadModErr.TheVariants.{NotAModule, NoMemory}
use Rattle.wasm_read.specs.Reading.{sized_at, custom_at, at_custom, customs_from, customs_at, Funcs, function_of, functions_of}
use Rattle.wasm_read.specs.Gives.{GivesAs, Skips}
use Rattle.wasm_read.proofs.ModuleLaws.{custom_sized}
use Rattle.wasm_read.proofs.CodeSteps.{WhenRefused}

-- custom sections

pub custom_shorter : (bs new : List ℕ) (x : List ℕ) → sized_at custom_at bs ≡ Some (x, new) → length new ≤ length bs
custom_shorter bs new x e = let t = custom_sized.takes bs (x, new) e in omega (arith, ap length t.1, length-append t.0 new)

steady : (n m : ℕ) (bs : List ℕ) → length bs < n → length bs < m → customs_from n bs ≡ customs_from m bs
steady zero m bs l k = absurd (omega arith)
steady (suc n) zero bs l k = absurd (omega arith)
steady (suc n) (suc m) [] l k = refl
steady (suc n) (suc m) (b ∷ bs) l k = ap (λ o. if b == 0x00 then o else Some (b ∷ bs)) (go (steady n m) (sized_at custom_at bs) refl)
  where
    go : ((bs : List ℕ) → length bs < n → length bs < m → customs_from n bs ≡ customs_from m bs) → (o : Option (List ℕ × List ℕ)) → sized_at custom_at bs ≡ o → (o >>= λ c. customs_from n c.1) ≡ (o >>= λ c. customs_from m c.1)
    go ih None e = refl
    go ih (Some c) e = let s = custom_shorter bs c.1 c.0 e in ih c.1 (omega arith) (omega arith)

pub at_custom_is : (bs : List ℕ) → at_custom bs ≡ true → bs ≡ 0x00 ∷ drop 1 bs
at_custom_is [] e = cc
at_custom_is (b ∷ bs) e = ap (λ v. v ∷ bs) (eqb-true b 0x00 e)

pub no_custom : (bs : List ℕ) → at_custom bs ≡ false → customs_at bs ≡ Some bs
unfolding customs_at
no_custom [] e = refl
no_custom (b ∷ bs) e = ap (λ (t : Bool). if t then (sized_at custom_at bs >>= λ c. customs_from (suc (length bs)) c.1) else Some (b ∷ bs)) e

pub one_custom : (bs mid new x : List ℕ) → bs ≡ 0x00 ∷ mid → sized_at custom_at mid ≡ Some (x, new) → customs_at bs ≡ customs_at new
unfolding customs_at
one_custom bs mid new x e h =
    let s = custom_shorter mid new x h in
    ap customs_at e ∙ ap (λ o. o >>= λ c. customs_from (suc (length mid)) c.1) h ∙ steady (suc (length mid)) (suc (length new)) new (omega arith) (omega arith)

pub bad_custom : (bs mid : List ℕ) → bs ≡ 0x00 ∷ mid → sized_at custom_at mid ≡ None → customs_at bs ≡ None
unfolding customs_at
bad_custom bs mid e h = ap customs_at e ∙ ap (λ o. o >>= λ c. customs_from (suc (length mid)) c.1) h

-- the first byte is passed over
pub byte_after : (bs mid : List ℕ) (b : ℕ) → at_custom bs ≡ true → bs ≡ b ∷ mid → bs ≡ 0x00 ∷ mid
byte_after bs mid b t e = let h = at_custom_is bs t in let k : b ∷ mid ≡ 0x00 ∷ drop 1 bs = sym e ∙ h in let z : b ≡ 0x00 = cc in e ∙ ap (λ v. v ∷ mid) z

pub custom_err : (start bs mid new : List ℕ) (e : ReadModErr) → customs_at start ≡ customs_at bs → bs ≡ 0x00 ∷ mid → GivesAs {W = List ℕ} (λ s. s) (sized_at custom_at) mid new (Err e) → WhenRefused e (customs_at start ≡ None)
custom_err start bs mid new NotAModule i q h = i ∙ bad_custom bs mid q h
custom_err start bs mid new NoMemory i q h = tt

pub skips_err : (read : List ℕ → Option (List ℕ)) (old new : List ℕ) (r : Result (Unit {0}) ReadModErr) (x e : ReadModErr) → r ≡ Err x → x ≡ e → WhenRefused e (read old ≡ None) → Skips read old new r
skips_err read old new r x e q p h = subst (Skips read old new) (sym (q ∙ ap (λ (e : ReadModErr). Err e) p)) (go e h)
  where
    go : (e : ReadModErr) → WhenRefused e (read old ≡ None) → Skips read old new (Err e)
    go NotAModule h = h
    go NoMemory h = tt

-- functions

-- the last ones are made, in the other order
pub record Made (ts : List ℕ) (all left : Funcs) (made : List Function) : Type 0 where
  pub done : Funcs
  pub split : all ≡ left ++ done
  pub same : functions_of (drop (length left) ts) done ≡ Some (reverse made)
  pub enough : length left ≤ length ts

none_done : (ts : List ℕ) → functions_of (drop (length ts) ts) [] ≡ Some []
none_done [] = refl
none_done (t ∷ ts) = none_done ts

append-nil : {A : Type 0} (xs : List A) → xs ≡ xs ++ []
append-nil [] = refl
append-nil (x ∷ xs) = ap (λ l. x ∷ l) (append-nil xs)

pub begins : (ts : List ℕ) (all : Funcs) (made : List Function) → made ≡ [] → length ts ≡ length all → Made ts all all made
begins ts all made e l = subst (Made ts all all) (sym e) (record {
  done = [];
  split = append-nil all;
  same = ap (λ n. functions_of (drop n ts) []) (sym l) ∙ none_done ts;
  enough = omega arith;
})

pub one_made : (ts : List ℕ) (all left left' : Funcs) (made made' : List Function) (f : List Locals × Code) (t : ℕ) (x : Function) → left ≡ left' ++ f ∷ [] → t ≡ get_or ts (length left') t → x ≡ function_of t f → made' ≡ made ++ x ∷ [] → Made ts all left made → Made ts all left' made'
one_made ts all left left' made made' f t x split at is more m =
    let size : length left ≡ length left' + 1 = ap length split ∙ length-append left' (f ∷ []) in
    let there : length left' < length ts = omega (arith, m.enough) in
    let next : suc (length left') ≡ length left = omega (arith, size) in
    let prefix : drop (length left') ts ≡ t ∷ drop (length left) ts = drop-cons ts (length left') t there ∙ ap₂ (λ (a n : ℕ). a ∷ drop n ts) (sym at) next in
    let turned : reverse made' ≡ x ∷ reverse made = ap reverse more ∙ reverse-append made (x ∷ []) in
    record {
      done = f ∷ m.done;
      split = m.split ∙ ap (λ l. l ++ m.done) split ∙ append_assoc left' (f ∷ []) m.done;
      same = ap (λ l. functions_of l (f ∷ m.done)) prefix ∙ ap (λ o. o >>= λ xs. Some (function_of t f ∷ xs)) m.same ∙ ap (λ (y : Function). Some (y ∷ reverse made)) (sym is) ∙ ap Some (sym turned);
      enough = omega arith;
    }

pub all_made : (ts : List ℕ) (all left : Funcs) (made out : List Function) → length left ≡ 0 → out ≡ reverse made → Made ts all left made → functions_of ts all ≡ Some out
all_made ts all [] made out e r m = ap (functions_of ts) m.split ∙ m.same ∙ ap Some (sym r)
all_made ts all (f ∷ left) made out e r m = absurd (omega arith)

pub too_few : (ts : List ℕ) (fs : Funcs) → length ts ≢ length fs → functions_of ts fs ≡ None
too_few [] [] ne = absurd (ne refl)
too_few [] (f ∷ fs) ne = refl
too_few (t ∷ ts) [] ne = refl
too_few (t ∷ ts) (f ∷ fs) ne = ap (λ o. o >>= λ xs. Some (function_of t f ∷ xs)) (too_few ts fs (λ e. ne (ap suc e)))

-- the item at an index within a list does not depend on the default
pub get_or_any : (xs : List ℕ) (i d e : ℕ) → i < length xs → get_or xs i d ≡ get_or xs i e
get_or_any [] i d e lt = absurd (omega arith)
get_or_any (x ∷ xs) zero d e lt = refl
get_or_any (x ∷ xs) (suc i) d e lt = get_or_any xs i d e (omega arith)
