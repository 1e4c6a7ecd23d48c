-- Where keys stand among the keys of slots.
use Rattle.std.specs.Prelude.{cond, slice_get, slice_set, is_some}
use Rattle.std.specs.Option.{option_and_then, option_map}
use Rattle.std.specs.Ordering.{is_eq, eq_by_cmp}
use Rattle.std.specs.Cmp.Lexicographic.{nat_list_cmp_total}
use Rattle.std.specs.Str.{bytes_eq}
use Rattle.std.proofs.Common.{◌≡◌, ℕ, zero, suc, ◌<◌, Bool, true, false, List, [], ◌∷◌, ◌++◌, length, Option, Some, None, ◌⊎◌, inl, inr, refl, sym, ap, ap₂, subst, ◌∙◌, arith}
use Rattle.std.proofs.lemmas.Cmp.{tied_itself}
use Rattle.std.proofs.lemmas.Option.{same_Some, slice_get_within}
use Rattle.std.proofs.lemmas.Map.Text.{is_eq-slice_cmp}
use Rattle.ledger_types.specs.Key.{key_format}
use Rattle.ledger_types.specs.KeyOrder.{ranked_key}
use Rattle.ledger_types.specs.declared.key.LedgerKey.{LedgerKey}
use Rattle.ledger_types.proofs.Lemmas.{key_ranked}
use Rattle.ledger_spec.specs.LedgerMap.{key_bytes}
use Rattle.contract_storage.specs.Footprint.{with_key}
use Rattle.contract_storage.specs.Listed.{AreApart}
use Rattle.contract_storage.specs.Places.{at, has_bytes, named, place_at, place_in, IsSpot}
use Rattle.contract_storage.specs.declared.spot.Spot.{Spot}
use Rattle.contract_storage.proofs.Laying.{order, antisymmetric, equal_from, swap}

abbrev pub Keys : Type 0
Keys = List (LedgerKey × Bool)

-- ---- one place

-- a key with these bytes is the first one, or among the others
first_or : (P : ℕ → Type 0) (b : Bool) (o : Option ℕ) (i : ℕ) → cond b (Some 0) (option_map suc o) ≡ Some i → (b ≡ true → P 0) → ((j : ℕ) → b ≡ false → o ≡ Some j → P (suc j)) → P i
first_or P true o i h f g = let z : 0 ≡ i = cc in subst P z (f refl)
first_or P false None i h f g = cc
first_or P false (Some j) i h f g = let z : suc j ≡ i = cc in subst P z (g j refl refl)

-- no key has these bytes
pub split : (b : Bool) (o : Option ℕ) → cond b (Some 0) (option_map suc o) ≡ None → (b ≡ false) × (o ≡ None)
split true o h = cc
split false None h = (refl, refl)
split false (Some i) h = cc

-- a key has these bytes only if they are its own
pub bytes_are : (q : List ℕ) (k : LedgerKey) → has_bytes q k ≡ true → q ≡ ranked_key k
bytes_are q k e = antisymmetric q (ranked_key k) (equal_from (order q (ranked_key k)) e)

-- a key has its bytes
pub bytes_itself : (k : LedgerKey) → has_bytes (ranked_key k) k ≡ true
bytes_itself k = ap is_eq (tied_itself nat_list_cmp_total (ranked_key k))

-- what stands at a place
pub record Stands (q : List ℕ) (keys : Keys) (i : ℕ) : Type 0 where
  pub key : LedgerKey × Bool
  pub there : slice_get keys i ≡ Some key
  pub bytes : q ≡ ranked_key key.0

pub stands : (q : List ℕ) (keys : Keys) (i : ℕ) → place_at q keys ≡ Some i → Stands q keys i
stands q [] i e = cc
stands q (k ∷ ks) i e =
    first_or (Stands q (k ∷ ks)) (has_bytes q k.0) (place_at q ks) i e
    (λ b. record { key = k; there = refl; bytes = bytes_are q k.0 b })
    (λ j b f. let s = stands q ks j f in record { key = s.key; there = s.there; bytes = s.bytes })

-- a place is one of the list
pub within : (q : List ℕ) (keys : Keys) (i : ℕ) → place_at q keys ≡ Some i → i < length keys
within q keys i e = let s = stands q keys i e in slice_get_within keys i s.key s.there

-- two keys with XDR bytes tie if their bytes are the same
pub ties : (key k : LedgerKey) → key_format.fits key → key_format.fits k → has_bytes (ranked_key key) k ≡ bytes_eq (key_bytes key) (key_bytes k)
ties key k f g = is_eq-slice_cmp (ranked_key key) (ranked_key k) ∙ ap₂ bytes_eq (key_ranked key f) (key_ranked k g)

-- ---- what is known by place, by key

-- it is what is known at the place of the key
pub at_named : {X : Type 0} (q : List ℕ) (keys : Keys) (xs : List X) → at q (named keys xs) ≡ option_and_then (slice_get xs) (place_at q keys)
at_named q [] xs = refl
at_named {X} q (k ∷ ks) [] =
    elim (has_bytes q k.0) as (λ b. None ≡ option_and_then (slice_get {X = X} []) (cond b (Some 0) (option_map suc (place_at q ks)))) [
      | true ↦ refl
      | false ↦ sym (nothing (place_at q ks))
    ]
  where
    nothing : (o : Option ℕ) → option_and_then (slice_get {X = X} []) (option_map suc o) ≡ None
    nothing None = refl
    nothing (Some i) = refl
at_named {X} q (k ∷ ks) (x ∷ xs) =
    elim (has_bytes q k.0) as (λ b. cond b (Some x) (at q (named ks xs)) ≡ option_and_then (slice_get (x ∷ xs)) (cond b (Some 0) (option_map suc (place_at q ks)))) [
      | true ↦ refl
      | false ↦ at_named q ks xs ∙ later (place_at q ks)
    ]
  where
    later : (o : Option ℕ) → option_and_then (slice_get xs) o ≡ option_and_then (slice_get (x ∷ xs)) (option_map suc o)
    later None = refl
    later (Some i) = refl

-- what is known of a key whose place is known
pub known : {X : Type 0} (q : List ℕ) (keys : Keys) (xs : List X) (i : ℕ) (x : X) → place_at q keys ≡ Some i → slice_get xs i ≡ Some x → at q (named keys xs) ≡ Some x
known q keys xs i x e f = at_named q keys xs ∙ ap (option_and_then (slice_get xs)) e ∙ f

not_both : (q r : List ℕ) (k : LedgerKey) → has_bytes r k ≡ false → has_bytes q k ≡ true → eq_by_cmp order q r ≡ true → ⊥
not_both q r k other a b =
    let same : q ≡ r = antisymmetric q r (equal_from (order q r) b) in
    let it : has_bytes r k ≡ true = subst (λ (s : List ℕ). has_bytes s k ≡ true) same a in
    cc

same_first : {X : Type 0} (b : Bool) (x y : X) (o : Option X) → cond b (Some x) o ≡ cond b (Some x) (cond b (Some y) o)
same_first true x y o = refl
same_first false x y o = refl

-- what is known after it was set at the place of the bytes r
pub at_set : {X : Type 0} (q r : List ℕ) (keys : Keys) (xs : List X) (i : ℕ) (x : X) → place_at r keys ≡ Some i → i < length xs
    → at q (named keys (slice_set xs i x)) ≡ cond (eq_by_cmp order q r) (Some x) (at q (named keys xs))
at_set q r [] xs i x e w = cc
at_set q r (k ∷ ks) [] i x e w = absurd (omega arith)
at_set {X} q r (k ∷ ks) (y ∷ xs) i x e w =
    first_or (λ n. n < length (y ∷ xs) → at q (named (k ∷ ks) (slice_set (y ∷ xs) n x)) ≡ cond (eq_by_cmp order q r) (Some x) (at q (named (k ∷ ks) (y ∷ xs))))
    (has_bytes r k.0) (place_at r ks) i e
    (λ b h.
    subst (λ (s : List ℕ). cond (eq_by_cmp order q (ranked_key k.0)) (Some x) (at q (named ks xs)) ≡ cond (eq_by_cmp order q s) (Some x) (cond (eq_by_cmp order q (ranked_key k.0)) (Some y) (at q (named ks xs))))
    (sym (bytes_are r k.0 b)) (same_first (eq_by_cmp order q (ranked_key k.0)) x y (at q (named ks xs))))
    (λ j b f h.
    ap (λ (o : Option X). cond (has_bytes q k.0) (Some y) o) (at_set q r ks xs j x f (omega arith))
    ∙ swap (has_bytes q k.0) (eq_by_cmp order q r) (Some y) (Some x) (at q (named ks xs)) (not_both q r k.0 b)) w

-- ---- one more key

-- two tests that do not both hold may change places
pub either : (b c : Bool) (n : ℕ) (o : Option ℕ) → (b ≡ true → c ≡ true → ⊥)
    → cond b (Some 0) (option_map suc (cond c (Some n) o)) ≡ cond c (Some (suc n)) (cond b (Some 0) (option_map suc o))
either true true n o h = absurd (h refl refl)
either true false n o h = refl
either false true n o h = refl
either false false n o h = refl

-- the place of a new key is the number of keys before it, and the others keep theirs
pub place_new : (q : List ℕ) (k : LedgerKey) (w : Bool) (keys : Keys) → place_in k keys ≡ None
    → place_at q (keys ++ (k, w) ∷ []) ≡ cond (has_bytes q k) (Some (length keys)) (place_at q keys)
place_new q k w [] e = refl
place_new q k w (x ∷ keys) e =
    let f = split (has_bytes (ranked_key k) x.0) (place_in k keys) e in
    ap (λ (o : Option ℕ). cond (has_bytes q x.0) (Some 0) (option_map suc o)) (place_new q k w keys f.1)
    ∙ either (has_bytes q x.0) (has_bytes q k) (length keys) (place_at q keys) (not_both q (ranked_key k) x.0 f.0)

-- the keys with a new one have it at their end
pub place_last : (k : LedgerKey) (w : Bool) (keys : Keys) → place_in k keys ≡ None → place_in k (keys ++ (k, w) ∷ []) ≡ Some (length keys)
place_last k w keys e =
    place_new (ranked_key k) k w keys e
    ∙ ap (λ (b : Bool). cond b (Some (length keys)) (place_in k keys)) (bytes_itself k)

-- keys that are apart are so with a new one
stays_at : (o : Option ℕ) (b : Bool) (i n : ℕ) → o ≡ Some i → (b ≡ true → o ≡ None) → cond b (Some n) o ≡ Some i
stays_at o false i n e f = e
stays_at o true i n e f = let h : None ≡ Some i = sym (f refl) ∙ e in absurd cc

pub apart_more : (k : LedgerKey) (w : Bool) (keys : Keys) → place_in k keys ≡ None → AreApart keys → AreApart (keys ++ (k, w) ∷ [])
apart_more k w keys absent apart i x e =
    elim (split_at keys (k, w) i x e) [
      | inl old ↦
          let f : has_bytes (ranked_key x.0) k ≡ true → place_in x.0 keys ≡ None =
          λ b. ap (λ (q : List ℕ). place_at q keys) (bytes_are (ranked_key x.0) k b) ∙ absent in
          place_new (ranked_key x.0) k w keys absent ∙ stays_at (place_in x.0 keys) (has_bytes (ranked_key x.0) k) i (length keys) (apart i x old) f
      | inr new ↦
          ap (λ (y : LedgerKey × Bool). place_in y.0 (keys ++ (k, w) ∷ [])) (sym new.1) ∙ place_last k w keys absent ∙ ap (λ (n : ℕ). Some n) (sym new.0)
    ]
  where
    split_at : (ks : Keys) (y : LedgerKey × Bool) (j : ℕ) (z : LedgerKey × Bool) → slice_get (ks ++ y ∷ []) j ≡ Some z
        → (slice_get ks j ≡ Some z) ⊎ ((j ≡ length ks) × (y ≡ z))
    split_at [] y zero z h = inr (refl, same_Some y z h)
    split_at [] y (suc j) z h = cc
    split_at (a ∷ ks) y zero z h = inl h
    split_at (a ∷ ks) y (suc j) z h = elim (split_at ks y j z h) [
      | inl old ↦ inl old
      | inr new ↦ inr (ap (λ (n : ℕ). suc n) new.0, new.1)
    ]

-- a new key, with what is known of it
pub named_more : {X : Type 0} (keys : Keys) (xs : List X) (k : LedgerKey) (w : Bool) (x : X) → length xs ≡ length keys
    → named (keys ++ (k, w) ∷ []) (xs ++ x ∷ []) ≡ named keys xs ++ (k, x) ∷ []
named_more [] [] k w x e = refl
named_more [] (y ∷ xs) k w x e = absurd (omega (arith, e))
named_more (j ∷ keys) [] k w x e = absurd (omega (arith, e))
named_more {X} (j ∷ keys) (y ∷ xs) k w x e = ap (λ (es : List (LedgerKey × X)). (j.0, y) ∷ es) (named_more keys xs k w x (omega (arith, e)))

-- what stands at a place stays there
pub still_there : {X : Type 0} (xs ys : List X) (i : ℕ) (x : X) → slice_get xs i ≡ Some x → slice_get (xs ++ ys) i ≡ Some x
still_there [] ys i x e = cc
still_there (y ∷ xs) ys zero x e = e
still_there (y ∷ xs) ys (suc i) x e = still_there xs ys i x e

-- a place stays where the keys do
pub spot_still : (old new : Keys) (spot : Spot) → new ≡ old → IsSpot old spot → IsSpot new spot
spot_still old new spot e is = subst (λ (keys : Keys). IsSpot keys spot) (sym e) is

-- a key that has a place is not added
pub key_kept : (keys : Keys) (k : LedgerKey) (w : Bool) (i : ℕ) → place_in k keys ≡ Some i → with_key keys k w ≡ keys
key_kept keys k w i e = ap (λ (o : Option ℕ). cond (is_some o) keys (keys ++ (k, w) ∷ [])) e

pub key_added : (keys : Keys) (k : LedgerKey) (w : Bool) → place_in k keys ≡ None → with_key keys k w ≡ keys ++ (k, w) ∷ []
key_added keys k w e = ap (λ (o : Option ℕ). cond (is_some o) keys (keys ++ (k, w) ∷ [])) e
