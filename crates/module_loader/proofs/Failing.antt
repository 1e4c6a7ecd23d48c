-- The first item that does not pass a test, where passing is a fact.
use Rattle.std.proofs.Common.{◌≡◌, ℕ, zero, suc, Bool, true, false, List, [], ◌∷◌, take, Option, Some, None, refl, sym, ap, ◌∙◌, subst}
use Rattle.std.specs.Prelude.{slice_get, option_map, if◌then◌else◌}
use Rattle.std.specs.List.{AllByRecursion}
use Rattle.wasm_check.proofs.Lemmas.{Same}
use Rattle.module_spec.specs.Loading.{first_failing}

pub false_unless : (b : Bool) → (b ≡ true → ⊥) → b ≡ false
false_unless true h = absurd (h refl)
false_unless false h = refl

pub true_unless : (b : Bool) → (b ≡ false → ⊥) → b ≡ true
true_unless true h = refl
true_unless false h = absurd (h refl)

none_before : (o : Option ℕ) → option_map suc o ≡ None → o ≡ None
none_before None e = refl
none_before (Some n) e = absurd cc

some_before : (o : Option ℕ) (k : ℕ) → option_map suc o ≡ Some k → (n : ℕ) × (o ≡ Some n) × (k ≡ suc n)
some_before None k e = absurd cc
some_before (Some n) k e = (n, refl, cc)

-- the item of this number is the first of which the fact is false
abbrev pub FailsAt : {A : Type 0} → (A → Type 0) → List A → ℕ → Type 0
FailsAt {A} P xs k = (x : A) × (slice_get xs k ≡ Some x) × (P x → ⊥) × AllByRecursion P (take k xs)

module _ {A : Type 0} (passes : A → Bool) (P : A → Type 0) (same : (x : A) → Same (passes x) (P x)) where
  pub all_pass : (xs : List A) → AllByRecursion P xs → first_failing passes xs ≡ None
  all_pass [] h = refl
  all_pass (x ∷ xs) h = rw ((same x).on h.0) (ap (option_map suc) (all_pass xs h.1))

  pub found_failing : (xs : List A) (k : ℕ) (x : A) → slice_get xs k ≡ Some x → (P x → ⊥) → AllByRecursion P (take k xs) → first_failing passes xs ≡ Some k
  found_failing [] k x e none h = absurd cc
  found_failing (y ∷ ys) zero x e none h =
      let this : y ≡ x = cc in
      let failed : passes y ≡ false = false_unless (passes y) (λ t. none (subst P this ((same y).back t))) in
      rw failed refl
  found_failing (y ∷ ys) (suc k) x e none h = rw ((same y).on h.0) (ap (option_map suc) (found_failing ys k x e none h.1))

  head_passes : (b : Bool) (x : A) (xs : List A) → passes x ≡ b → (if b then option_map suc (first_failing passes xs) else Some 0) ≡ None → (first_failing passes xs ≡ None → AllByRecursion P xs) → AllByRecursion P (x ∷ xs)
  head_passes true x xs is e rest = ((same x).back is, rest (none_before (first_failing passes xs) e))
  head_passes false x xs is e rest = absurd cc

  pub none_fails : (xs : List A) → first_failing passes xs ≡ None → AllByRecursion P xs
  none_fails [] e = tt
  none_fails (x ∷ xs) e = head_passes (passes x) x xs refl e (none_fails xs)

  head_fails : (b : Bool) (x : A) (xs : List A) (k : ℕ) → passes x ≡ b → (if b then option_map suc (first_failing passes xs) else Some 0) ≡ Some k → ((n : ℕ) → first_failing passes xs ≡ Some n → FailsAt P xs n) → FailsAt P (x ∷ xs) k
  head_fails true x xs k is e rest =
      let n = some_before (first_failing passes xs) k e in
      let later = rest n.0 n.1 in
      let here : FailsAt P (x ∷ xs) (suc n.0) = (later.0, later.1, later.2, ((same x).back is, later.3)) in
      subst (FailsAt P (x ∷ xs)) (sym n.2) here
  head_fails false x xs k is e rest =
      let first : zero ≡ k = cc in
      let here : FailsAt P (x ∷ xs) zero = (x, refl, λ h. (let clash : false ≡ true = sym is ∙ (same x).on h in cc), tt) in
      subst (FailsAt P (x ∷ xs)) first here

  pub first_fails : (xs : List A) (k : ℕ) → first_failing passes xs ≡ Some k → FailsAt P xs k
  first_fails [] k e = absurd cc
  first_fails (x ∷ xs) k e = head_fails (passes x) x xs k refl e (first_fails xs)
