-- Which values have a small word.
use Rattle.std.proofs.Common.{◌≡◌, ℕ, ◌-◌, ◌^◌, ◌≤◌, ◌<◌, ℤ, pos, negsuc, inl, inr, Bool, true, false, refl, ap, ap₂}
use Rattle.std.specs.Prelude.{◌↔◌, ◌⊎◌, List, length, is_some, ◌==◌, ◌&&◌, nat_le, nat_lt, int_lt, int_le, T, ◌<ℤ◌, ◌≤ℤ◌}
use Rattle.std.specs.List.{list_all}
use Rattle.std.proofs.lemmas.Bool.{and_parts, eqb-true, eq-eqb, leb-true, le-leb, ltb-true, lt-ltb}
use Rattle.value_types.specs.Datum.{boolean, void, error, u32, i32, u64, i64, timepoint, duration, u128, i128, symbol}
use Rattle.host_spec.specs.Characters.{is_character}
use Rattle.host_spec.specs.Words.{fits56, only_if, parts_fit56}
use Rattle.word_laws.specs.Laws.{SmallValuesHaveRanges}

both : (a b : Bool) → a ≡ true → b ≡ true → (a && b) ≡ true
both a b e f = ap₂ (λ (x y : Bool). x && y) e f

-- a test and what it tests
by_test : {A : Type 0} {P : Type 0} (b : Bool) (a : A) → ((b ≡ true) ↔ P) → (is_some (only_if b a) ≡ true) ↔ P
by_test true a h = h
by_test false a h = h

below : (n m : ℕ) → (nat_lt n m ≡ true) ↔ (n < m)
below n m = (ltb-true n m, lt-ltb n m)

holds : (b : Bool) → b ≡ true → T b
holds true e = tt
holds false e = absurd cc

is_true : (b : Bool) → T b → b ≡ true
is_true true h = refl
is_true false h = absurd h

signed_range : (z : ℤ) → (fits56 z ≡ true) ↔ ((negsuc (2 ^ 55 - 1) ≤ℤ z) × (z <ℤ pos (2 ^ 55)))
signed_range z = (
  λ e. (let h = and_parts (int_le (negsuc (2 ^ 55 - 1)) z) (int_lt z (pos (2 ^ 55))) e in (record { le = holds (int_le (negsuc (2 ^ 55 - 1)) z) h.0 }, record { lt = holds (int_lt z (pos (2 ^ 55))) h.1 })),
  λ h. both (int_le (negsuc (2 ^ 55 - 1)) z) (int_lt z (pos (2 ^ 55))) (is_true (int_le (negsuc (2 ^ 55 - 1)) z) h.0.le) (is_true (int_lt z (pos (2 ^ 55))) h.1.lt),
)

parts_range : (hi : ℤ) (lo : ℕ) → (parts_fit56 hi lo ≡ true) ↔ (((hi ≡ pos 0) × (lo < 2 ^ 55)) ⊎ ((hi ≡ negsuc 0) × (2 ^ 64 - 2 ^ 55 ≤ lo)))
parts_range (pos n) lo = (
  λ e. (let h = and_parts (n == 0) (nat_lt lo (2 ^ 55)) e in inl (ap (λ (m : ℕ). pos m) (eqb-true n 0 h.0), ltb-true lo (2 ^ 55) h.1)),
  back,
)
  where
    back : (((pos n ≡ pos 0) × (lo < 2 ^ 55)) ⊎ ((pos n ≡ negsuc 0) × (2 ^ 64 - 2 ^ 55 ≤ lo))) → parts_fit56 (pos n) lo ≡ true
    back (inl h) = let is : n ≡ 0 = cc in both (n == 0) (nat_lt lo (2 ^ 55)) (eq-eqb n 0 is) (lt-ltb lo (2 ^ 55) h.1)
    back (inr h) = let e = h.0 in absurd cc
parts_range (negsuc n) lo = (
  λ e. (let h = and_parts (n == 0) (nat_le (2 ^ 64 - 2 ^ 55) lo) e in inr (ap (λ (m : ℕ). negsuc m) (eqb-true n 0 h.0), leb-true (2 ^ 64 - 2 ^ 55) lo h.1)),
  back,
)
  where
    back : (((negsuc n ≡ pos 0) × (lo < 2 ^ 55)) ⊎ ((negsuc n ≡ negsuc 0) × (2 ^ 64 - 2 ^ 55 ≤ lo))) → parts_fit56 (negsuc n) lo ≡ true
    back (inl h) = let e = h.0 in absurd cc
    back (inr h) = let is : n ≡ 0 = cc in both (n == 0) (nat_le (2 ^ 64 - 2 ^ 55) lo) (eq-eqb n 0 is) (le-leb (2 ^ 64 - 2 ^ 55) lo h.1)

u128_range : (hi lo : ℕ) → (((hi == 0) && nat_lt lo (2 ^ 56)) ≡ true) ↔ ((hi ≡ 0) × (lo < 2 ^ 56))
u128_range hi lo = (
  λ e. (let h = and_parts (hi == 0) (nat_lt lo (2 ^ 56)) e in (eqb-true hi 0 h.0, ltb-true lo (2 ^ 56) h.1)),
  λ h. both (hi == 0) (nat_lt lo (2 ^ 56)) (eq-eqb hi 0 h.0) (lt-ltb lo (2 ^ 56) h.1),
)

text_range : (text : List ℕ) → ((nat_le (length text) 9 && list_all is_character text) ≡ true) ↔ ((length text ≤ 9) × (list_all is_character text ≡ true))
text_range text = (
  λ e. (let h = and_parts (nat_le (length text) 9) (list_all is_character text) e in (leb-true (length text) 9 h.0, h.1)),
  λ h. both (nat_le (length text) 9) (list_all is_character text) (le-leb (length text) 9 h.0) h.1,
)

pub in_range : SmallValuesHaveRanges
in_range (boolean true) = (λ e. tt, λ h. refl)
in_range (boolean false) = (λ e. tt, λ h. refl)
in_range void = (λ e. tt, λ h. refl)
in_range (error x) = (λ e. tt, λ h. refl)
in_range (u32 n) = (λ e. tt, λ h. refl)
in_range (i32 n) = (λ e. tt, λ h. refl)
in_range (u64 n) = by_test (nat_lt n (2 ^ 56)) _ (below n (2 ^ 56))
in_range (i64 n) = by_test (fits56 n) _ (signed_range n)
in_range (timepoint n) = by_test (nat_lt n (2 ^ 56)) _ (below n (2 ^ 56))
in_range (duration n) = by_test (nat_lt n (2 ^ 56)) _ (below n (2 ^ 56))
in_range (u128 n) = by_test ((n.hi == 0) && nat_lt n.lo (2 ^ 56)) _ (u128_range n.hi n.lo)
in_range (i128 n) = by_test (parts_fit56 n.hi n.lo) _ (parts_range n.hi n.lo)
in_range (symbol text) = by_test (nat_le (length text) 9 && list_all is_character text) _ (text_range text)
in_range _ = (λ e. absurd cc, λ h. absurd h)
