-- Values that are read one after another, into a list.
use Rattle.std.proofs.Common.{◌≡◌, ℕ, suc, ◌+◌, ◌-◌, ◌<◌, List, [], ◌∷◌, ◌++◌, Option, Some, None, refl, sym, ap, ◌∙◌, append_assoc, arith}
use Rattle.wasm_spec.specs.Typing.{◌>>=◌}
use Rattle.wasm_read.specs.Reading.{Reader, row_at}

-- what is read after values that were read
abbrev pub with_prefix : {A : Type 0} → List A → Option (List A × List ℕ) → Option (List A × List ℕ)
with_prefix prefix r = r >>= λ x. Some (prefix ++ x.0, x.1)

regroup : {A : Type 0} (prefix : List A) (a : A) (r : Option (List A × List ℕ)) → with_prefix prefix (r >>= λ b. Some (a ∷ b.0, b.1)) ≡ with_prefix (prefix ++ a ∷ []) r
regroup prefix a (Some x) = ap (λ (vs : List _). Some (vs, x.1)) (sym (append_assoc prefix (a ∷ []) x.0))
regroup prefix a None = refl

module _ {A : Type 0} (read : Reader A) (prefix : List A) (count k : ℕ) (i : List ℕ) (total : Option (List A × List ℕ)) (so_far : with_prefix prefix (row_at read (count - k) i) ≡ total) where
  pub one_more : (a : A) (j : List ℕ) → k < count → read i ≡ Some (a, j) → with_prefix (prefix ++ a ∷ []) (row_at read (count - (k + 1)) j) ≡ total
  one_more a j lt h =
      let left : count - k ≡ suc (count - (k + 1)) = omega arith in
      let step : with_prefix prefix (row_at read (count - k) i) ≡ with_prefix (prefix ++ a ∷ []) (row_at read (count - (k + 1)) j) = rw (left, h) (regroup prefix a (row_at read (count - (k + 1)) j)) in
      sym step ∙ so_far

  pub refused : k < count → read i ≡ None → total ≡ None
  refused lt h =
      let left : count - k ≡ suc (count - (k + 1)) = omega arith in
      let step : with_prefix prefix (row_at read (count - k) i) ≡ None = rw (left, h) refl in
      sym so_far ∙ step
