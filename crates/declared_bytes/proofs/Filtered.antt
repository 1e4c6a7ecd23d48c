-- What passes a test, up to the next one.
use Rattle.std.proofs.Common.{◌≡◌, ℕ, ◌+◌, ◌<◌, Bool, cond, List, [], ◌∷◌, ◌++◌, length, get_or, take, filter, sym, ap, ◌∙◌, append_assoc}
use Rattle.std.proofs.lemmas.List.{take_more}
use Rattle.std.proofs.lemmas.List.Elements.{filter-append}

module _ {X : Type 0} (p : X → Bool) (before xs : List X) (i : ℕ) (x : X) (lt : i < length xs) (is : x ≡ get_or xs i x) where
  -- one more is looked at
  filter_more : filter p (take (i + 1) xs) ≡ filter p (take i xs) ++ cond (p x) (x ∷ []) []
  filter_more =
      ap (filter p) (take_more xs i x lt) ∙ filter-append p (take i xs) (get_or xs i x ∷ [])
      ∙ ap (λ (y : X). filter p (take i xs) ++ cond (p y) (y ∷ []) []) (sym is)

  -- a list so far, and the next one if it passes
  pub looked_at : (old new : List X) → old ≡ before ++ filter p (take i xs) → new ≡ old ++ cond (p x) (x ∷ []) [] → new ≡ before ++ filter p (take (i + 1) xs)
  looked_at old new so_far e =
      e ∙ ap (λ (ys : List X). ys ++ cond (p x) (x ∷ []) []) so_far ∙ append_assoc before (filter p (take i xs)) (cond (p x) (x ∷ []) [])
      ∙ ap (λ (ys : List X). before ++ ys) (sym filter_more)
