-- Fewer keys, compared by their bytes: a test that all keys pass, and a sum over all keys.
use Rattle.std.specs.List.{list_any, list_all, sum_by}
use Rattle.std.specs.Str.{bytes_eq}
use Rattle.std.specs.Prelude.{if◌then◌else◌}
use Rattle.std.proofs.Common.{◌≡◌, ◌+◌, ◌≤◌, ℕ, Bool, true, false, ◌||◌, List, [], ◌∷◌, refl, sym, ap, ◌∙◌, arith}
use Rattle.std.proofs.lemmas.Bool.{and_from}
use Rattle.std.proofs.lemmas.List.Sums.{sum_by-cons}
use Rattle.stage_runs.specs.Maps.{Bytes, LedgerKey, key_bytes, has_bytes}
use Rattle.stage_runs.specs.Whole.{has_twice}
use Rattle.stage_runs.proofs.Lemmas.{both_false, both_first, both_second, left_false, left_true, never, right_false, right_true}
use Rattle.apply_spec.proofs.Rising.{same_bytes, bytes_from}

-- each key of the first list is in the second
abbrev pub Within : List LedgerKey → List LedgerKey → Type 0
Within few all = (q : Bytes) → has_bytes few q ≡ true → has_bytes all q ≡ true

is_first : (key : LedgerKey) (keys : List LedgerKey) → has_bytes (key ∷ keys) (key_bytes key) ≡ true
is_first key keys = left_true (bytes_eq (key_bytes key) (key_bytes key)) (has_bytes keys (key_bytes key)) (same_bytes (key_bytes key))

rest_within : (key : LedgerKey) (few all : List LedgerKey) → Within (key ∷ few) all → Within few all
rest_within key few all within q e = within q (right_true (bytes_eq q (key_bytes key)) (has_bytes few q) e)

-- ---- a test of the keys' bytes

module _ (test : Bytes → Bool) where
  abbrev passes : LedgerKey → Bool
  passes key = test (key_bytes key)

  passes_at : (all : List LedgerKey) → list_all passes all ≡ true → (q : Bytes) → has_bytes all q ≡ true → test q ≡ true
  passes_at [] h q e = absurd cc
  passes_at (key ∷ all) h q e = at (passes_at all (both_second (passes key) (list_all passes all) h) q) (bytes_eq q (key_bytes key)) refl e
    where
      at : (has_bytes all q ≡ true → test q ≡ true) → (b : Bool) → bytes_eq q (key_bytes key) ≡ b → (b || has_bytes all q) ≡ true → test q ≡ true
      at more true is found = ap test (bytes_from q (key_bytes key) is) ∙ both_first (passes key) (list_all passes all) h
      at more false is found = more found

  -- fewer keys pass
  pub all_pass : (few all : List LedgerKey) → Within few all → list_all passes all ≡ true → list_all passes few ≡ true
  all_pass [] all within h = refl
  all_pass (key ∷ few) all within h =
      and_from (passes key) (list_all passes few) (passes_at all h (key_bytes key) (within (key_bytes key) (is_first key few)))
      (all_pass few all (rest_within key few all within) h)

  fails_at : (all : List LedgerKey) → list_any passes all ≡ false → (q : Bytes) → has_bytes all q ≡ true → test q ≡ false
  fails_at [] h q e = absurd cc
  fails_at (key ∷ all) h q e = at (fails_at all (right_false (passes key) (list_any passes all) h) q) (bytes_eq q (key_bytes key)) refl e
    where
      at : (has_bytes all q ≡ true → test q ≡ false) → (b : Bool) → bytes_eq q (key_bytes key) ≡ b → (b || has_bytes all q) ≡ true → test q ≡ false
      at more true is found = ap test (bytes_from q (key_bytes key) is) ∙ left_false (passes key) (list_any passes all) h
      at more false is found = more found

  -- none of fewer keys passes
  pub none_passes : (few all : List LedgerKey) → Within few all → list_any passes all ≡ false → list_any passes few ≡ false
  none_passes [] all within h = refl
  none_passes (key ∷ few) all within h =
      both_false (passes key) (list_any passes few) (fails_at all h (key_bytes key) (within (key_bytes key) (is_first key few)))
      (none_passes few all (rest_within key few all within) h)

-- ---- the list without the first key that has these bytes

abbrev without : Bytes → List LedgerKey → List LedgerKey
without p [] = []
without p (key ∷ keys) = if bytes_eq p (key_bytes key) then keys else key ∷ without p keys

has_without : (p q : Bytes) → bytes_eq q p ≡ false → (keys : List LedgerKey) → has_bytes (without p keys) q ≡ has_bytes keys q
has_without p q other [] = refl
has_without p q other (key ∷ keys) = at (has_without p q other keys) (bytes_eq p (key_bytes key)) refl
  where
    at : has_bytes (without p keys) q ≡ has_bytes keys q → (b : Bool) → bytes_eq p (key_bytes key) ≡ b
        → has_bytes (if b then keys else key ∷ without p keys) q ≡ (bytes_eq q (key_bytes key) || has_bytes keys q)
    at more true is = sym (ap (λ (c : Bool). c || has_bytes keys q) (sym (ap (bytes_eq q) (bytes_from p (key_bytes key) is)) ∙ other))
    at more false is = ap (λ (c : Bool). bytes_eq q (key_bytes key) || c) more

-- keys of a list that has another key no more are different from it
differs : (p q : Bytes) (keys : List LedgerKey) → has_bytes keys p ≡ false → has_bytes keys q ≡ true → bytes_eq q p ≡ false
differs p q keys left there = at (bytes_eq q p) refl
  where
    at : (b : Bool) → bytes_eq q p ≡ b → bytes_eq q p ≡ false
    at true is = never there (ap (has_bytes keys) (bytes_from q p is) ∙ left)
    at false is = is

-- ---- a sum over the keys' bytes

module _ (f : Bytes → ℕ) where
  abbrev counts : LedgerKey → ℕ
  counts key = f (key_bytes key)

  sum_without : (p : Bytes) (keys : List LedgerKey) → has_bytes keys p ≡ true → sum_by counts keys ≡ f p + sum_by counts (without p keys)
  sum_without p [] e = absurd cc
  sum_without p (key ∷ keys) e = at (sum_without p keys) (bytes_eq p (key_bytes key)) refl e
    where
      at : (has_bytes keys p ≡ true → sum_by counts keys ≡ f p + sum_by counts (without p keys)) → (b : Bool) → bytes_eq p (key_bytes key) ≡ b
          → (b || has_bytes keys p) ≡ true → sum_by counts (key ∷ keys) ≡ f p + sum_by counts (if b then keys else key ∷ without p keys)
      at more true is found = sum_by-cons counts key keys ∙ ap (λ (x : ℕ). x + sum_by counts keys) (ap f (sym (bytes_from p (key_bytes key) is)))
      at more false is found =
          let rest : sum_by counts keys ≡ f p + sum_by counts (without p keys) = more found in
          let one : sum_by counts (key ∷ keys) ≡ f (key_bytes key) + sum_by counts keys = sum_by-cons counts key keys in
          let other : sum_by counts (key ∷ without p keys) ≡ f (key_bytes key) + sum_by counts (without p keys) = sum_by-cons counts key (without p keys) in
          omega arith

  -- fewer keys, none of them twice, have no larger sum
  pub sum_fewer : (few all : List LedgerKey) → Within few all → has_twice few ≡ false → sum_by counts few ≤ sum_by counts all
  sum_fewer [] all within once = omega arith
  sum_fewer (key ∷ few) all within once =
      let p : Bytes = key_bytes key in
      let alone : has_bytes few p ≡ false = left_false (has_bytes few p) (has_twice few) once in
      let rest : sum_by counts few ≤ sum_by counts (without p all) = sum_fewer few (without p all)
      (λ q e. has_without p q (differs p q few alone e) all ∙ rest_within key few all within q e) (right_false (has_bytes few p) (has_twice few) once) in
      let one : sum_by counts (key ∷ few) ≡ f p + sum_by counts few = sum_by-cons counts key few in
      let taken : sum_by counts all ≡ f p + sum_by counts (without p all) = sum_without p all (within p (is_first key few)) in
      omega arith
