-- The change groups of two maps are those at any rising keys at which alone the maps differ.
use Rattle.std.specs.declared.cmp.Ordering.{Ordering}
use Rattle.std.specs.declared.cmp.Ordering.TheVariants.{Less, Equal, Greater}
use Rattle.std.specs.Ordering.{eq_by_cmp, is_eq, is_lt, ordering_reverse}
use Rattle.std.specs.List.{flat_map}
use Rattle.std.specs.Cmp.Lexicographic.{nat_list_cmp_total}
use Rattle.std.specs.FinMap.{get}
use Rattle.std.specs.Prelude.{◌||◌}
use Rattle.std.proofs.Common.{◌≡◌, ℕ, Bool, true, false, cond, List, [], ◌∷◌, ◌++◌, Option, Some, None, refl, sym, ap, subst, ◌∙◌}
use Rattle.ledger_spec.specs.declared.Kept.{Kept}
use Rattle.ledger_spec.specs.LedgerMap.{LedgerMap}
use Rattle.ledger_spec.specs.LedgerFile.{is_above}
use Rattle.change_log.specs.Groups.{Group, altered, group_at, groups_at, keys_of, groups}
use Rattle.change_log.specs.Keys.{IsAfter, Rise, has_key}
use Rattle.change_log.proofs.Back.{order, antisymmetric, keeps_itself}
use Rattle.change_log.proofs.Forward.{keys_rise, covered}

less_from : (o : Ordering) → is_lt o ≡ true → o ≡ Less
less_from Less e = refl
less_from Equal e = absurd cc
less_from Greater e = absurd cc

either : (a b : Bool) → a ≡ false → b ≡ false → (a || b) ≡ false
either a b e f = ap (λ (t : Bool). t || b) e ∙ f

-- a key below all keys of a list is not in it
below_not : (q : List ℕ) (ks : List (List ℕ)) → IsAfter (Some q) ks → has_key ks q ≡ false
below_not q [] a = refl
below_not q (k ∷ ks) a =
    either (eq_by_cmp order q k) (has_key ks q) (ap is_eq (less_from (order q k) a.0)) (below_not q ks a.1)

-- what is below a key is below all keys that are above it
lower : (j k : List ℕ) (ks : List (List ℕ)) → order j k ≡ Less → IsAfter (Some k) ks → IsAfter (Some j) ks
lower j k [] p a = tt
lower j k (q ∷ ks) p a =
    (ap is_lt (nat_list_cmp_total.trans j k q p (less_from (order k q) a.0)), lower j k ks p a.1)

above_more : (b : Option (List ℕ)) (k q : List ℕ) → is_above b k ≡ true → order k q ≡ Less → is_above b q ≡ true
above_more None k q a p = refl
above_more (Some b) k q a p = ap is_lt (nat_list_cmp_total.trans b k q (less_from (order b k) a) p)

no_tie : (k q : List ℕ) → order k q ≡ Less → eq_by_cmp order q k ≡ false
no_tie k q p = ap is_eq (nat_list_cmp_total.antisymm q k ∙ ap ordering_reverse p)

module _ (f : List ℕ → List Group) where
  -- above these bytes, only keys of the list have something
  abbrev Covers : Option (List ℕ) → List (List ℕ) → Type 0
  Covers b ks = (q : List ℕ) → is_above b q ≡ true → has_key ks q ≡ false → f q ≡ []

  none_all : (b : Option (List ℕ)) (ks : List (List ℕ)) → IsAfter b ks → ((q : List ℕ) → is_above b q ≡ true → f q ≡ [])
      → flat_map f ks ≡ []
  none_all b [] a h = refl
  none_all b (k ∷ ks) a h = ap (λ (x : List Group). x ++ flat_map f ks) (h k a.0) ∙ none_all b ks a.1 h

  -- what has nothing at its first key is covered by the rest
  covers_rest : (b : Option (List ℕ)) (k : List ℕ) (ks : List (List ℕ)) → f k ≡ [] → Covers b (k ∷ ks) → Covers b ks
  covers_rest b k ks e c q a n = by (order q k) refl
    where
      by : (o : Ordering) → order q k ≡ o → f q ≡ []
      by Equal p = ap f (antisymmetric q k p) ∙ e
      by Less p = c q a (either (eq_by_cmp order q k) (has_key ks q) (ap is_eq p) n)
      by Greater p = c q a (either (eq_by_cmp order q k) (has_key ks q) (ap is_eq p) n)

  -- above the first key, the rest covers
  covers_above : (b : Option (List ℕ)) (k : List ℕ) (ks : List (List ℕ)) → is_above b k ≡ true → Covers b (k ∷ ks)
      → Covers (Some k) ks
  covers_above b k ks above c q a n =
      let p : order k q ≡ Less = less_from (order k q) a in
      c q (above_more b k q above p) (either (eq_by_cmp order q k) (has_key ks q) (no_tie k q p) n)

  abbrev Same : List (List ℕ) → List (List ℕ) → Type 0
  Same ks js =
      (b : Option (List ℕ)) → IsAfter b ks → Rise ks → IsAfter b js → Rise js → Covers b ks → Covers b js
      → flat_map f ks ≡ flat_map f js

  same_none : (js : List (List ℕ)) → Same [] js
  same_none js b a r a' r' c d = sym (none_all b js a' (λ q above. c q above refl))

  same_by : (k j : List ℕ) (ks js : List (List ℕ)) → ((ls : List (List ℕ)) → Same ks ls) → Same (k ∷ ks) js
      → (o : Ordering) → order k j ≡ o → Same (k ∷ ks) (j ∷ js)
  same_by k j ks js ih inner Less p b a r a' r' c d =
      let none : f k ≡ [] = d k a.0 (below_not k (j ∷ js) (ap is_lt p, lower k j js p r'.0)) in
      ap (λ (x : List Group). x ++ flat_map f ks) none
      ∙ ih (j ∷ js) b a.1 r.1 a' r' (covers_rest b k ks none c) d
  same_by k j ks js ih inner Greater p b a r a' r' c d =
      let q : order j k ≡ Less = nat_list_cmp_total.antisymm j k ∙ ap ordering_reverse p in
      let none : f j ≡ [] = c j a'.0 (below_not j (k ∷ ks) (ap is_lt q, lower j k ks q r.0)) in
      inner b a r a'.1 r'.1 c (covers_rest b j js none d)
      ∙ sym (ap (λ (x : List Group). x ++ flat_map f js) none)
  same_by k j ks js ih inner Equal p b a r a' r' c d =
      let e : k ≡ j = antisymmetric k j p in
      ap (λ (x : List Group). f k ++ x)
      (ih js (Some k) r.0 r.1 (subst (λ (x : List ℕ). IsAfter (Some x) js) (sym e) r'.0) r'.1 (covers_above b k ks a.0 c)
      (subst (λ (x : List ℕ). Covers (Some x) js) (sym e) (covers_above b j js a'.0 d)))
      ∙ ap (λ (x : List ℕ). f x ++ flat_map f js) e

  same_cons : (k : List ℕ) (ks : List (List ℕ)) → ((ls : List (List ℕ)) → Same ks ls) → (js : List (List ℕ)) → Same (k ∷ ks) js
  same_cons k ks ih [] = λ b a r a' r' c d. none_all b (k ∷ ks) a (λ q above. d q above refl)
  same_cons k ks ih (j ∷ js) = same_by k j ks js ih (same_cons k ks ih js) (order k j) refl

  same_all : (ks js : List (List ℕ)) → Same ks js
  same_all [] js = same_none js
  same_all (k ∷ ks) js = same_cons k ks (same_all ks) js

-- where two maps have the same, there is no group
pub same_none_at : (a b : Option Kept) → a ≡ b → group_at a b ≡ []
same_none_at a b e = subst (λ (x : Option Kept). group_at a x ≡ []) e (itself a)
  where
    itself : (a : Option Kept) → group_at a a ≡ []
    itself None = refl
    itself (Some k) = ap (λ (t : Bool). cond t [] (altered k k ∷ [])) (keeps_itself k)

after_none : (ks : List (List ℕ)) → IsAfter None ks
after_none [] = tt
after_none (k ∷ ks) = (refl, after_none ks)

covers_keys : (m n : LedgerMap) → Covers (λ q. group_at (get m q) (get n q)) None (keys_of m n)
covers_keys m n q a e = same_none_at (get m q) (get n q) (covered m n q e)

-- the groups at rising keys are all, if the maps differ at no other key
pub at_keys : (m n : LedgerMap) (ks : List (List ℕ)) → Rise ks → ((q : List ℕ) → has_key ks q ≡ false → get m q ≡ get n q)
    → groups_at ks m n ≡ groups m n
at_keys m n ks r h =
    same_all (λ q. group_at (get m q) (get n q)) ks (keys_of m n) None (after_none ks) r (after_none (keys_of m n))
    (keys_rise m n)
    (λ q a e. same_none_at (get m q) (get n q) (h q e)) (covers_keys m n)

pointwise : (f g : List ℕ → List Group) → ((q : List ℕ) → f q ≡ g q) → (ks : List (List ℕ)) → flat_map f ks ≡ flat_map g ks
pointwise f g h [] = refl
pointwise f g h (k ∷ ks) = ap (λ (x : List Group). x ++ flat_map f ks) (h k)
    ∙ ap (λ (x : List Group). g k ++ x) (pointwise f g h ks)

-- the groups tell of each key by itself
pub by_key : (m n x y : LedgerMap) → ((q : List ℕ) → group_at (get m q) (get n q) ≡ group_at (get x q) (get y q))
    → groups m n ≡ groups x y
by_key m n x y h =
    pointwise (λ q. group_at (get m q) (get n q)) (λ q. group_at (get x q) (get y q)) h (keys_of m n)
    ∙ same_all (λ q. group_at (get x q) (get y q)) (keys_of m n) (keys_of x y) None (after_none (keys_of m n)) (keys_rise m n)
    (after_none (keys_of x y)) (keys_rise x y)
    (λ q a e. sym (h q) ∙ covers_keys m n q a e) (covers_keys x y)
