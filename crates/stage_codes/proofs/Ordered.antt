-- Codes by their hashes, and codes in the order of their hashes.
use Rattle.std.proofs.Common.{◌≡◌, ◌<◌, ◌+◌, ℕ, Bool, true, false, List, [], ◌∷◌, ◌++◌, Option, Some, None, Ordering, All, cond, is_some, length, get_or, slice_get, take, refl, sym, subst, ap, ap₂, ◌∙◌, arith, append_assoc}
use Rattle.std.specs.Borrow.{Bor}
use Rattle.std.specs.List.{AllByRecursion, flat_map}
use Rattle.std.proofs.lemmas.Grind.{flat_map-append}
use Rattle.std.specs.Ordering.{nat_cmp, match_ordering, ordering_reverse, is_eq, is_lt}
use Rattle.std.specs.declared.cmp.Ordering.TheVariants.{Less, Equal, Greater}
use Rattle.std.specs.Cmp.Lexicographic.{slice_cmp, nat_list_cmp_total}
use Rattle.std.specs.FinMap.{slice_cmp-IsAntisymmetric, nat_cmp-IsAntisymmetric}
use Rattle.std.specs.Map.{keys_of}
use Rattle.std.specs.BTreeMap.{insert_entry, is_at, get, Updates}
use Rattle.std.specs.List.Sorted.{IsStrictlySortedBy}
use Rattle.std.proofs.lemmas.List.{get_or-map, length-map, take_more, append-nil}
use Rattle.std.proofs.lemmas.List.Elements.{All-nil, All-cons, All-append, All-from_recursion}
use Rattle.std.proofs.lemmas.Map.Keys.{Less-from_sorted}
use Rattle.std.proofs.lemmas.Map.Entries.{place_from_lookup}
use Rattle.std.proofs.lemmas.Option.{get_or_from_slice_get, slice_get_within}
use Rattle.ledger_types.specs.declared.key.LedgerKey.{LedgerKey}
use Rattle.ledger_spec.specs.LedgerMap.{LedgerMap}
use Rattle.value_types.specs.Hash.{hash_of}
use Rattle.value_types.specs.declared.hash.Hash.{Hash}
use Rattle.code_cache.specs.declared.cache.Code.{Code}
use Rattle.code_cache.specs.Cached.{AreRising, IsAt}
use Rattle.stage_codes.specs.Found.{HasCode, IsCodeIn, IsShared, Codes, codes_of, AreFound, IsThere, KeepsHashes, Adds, AddsOnly, AreOf}

abbrev by_hash : List ℕ → List ℕ → Ordering
by_hash = slice_cmp nat_cmp

abbrev Pair : Type 0
Pair = List ℕ × Bor (List ℕ)

-- an insertion keeps what holds of each pair
pub found_more : (entries : LedgerMap) (pairs : List Pair) (hash : List ℕ) (code : Bor (List ℕ)) → AreFound entries pairs
    → HasCode entries (hash_of hash) code.now → AreFound entries (insert_entry by_hash pairs hash code)
found_more entries [] hash code all has = (has, tt)
found_more entries (p ∷ pairs) hash code all has = at (by_hash hash p.0) refl (found_more entries pairs hash code all.1 has)
  where
    at : (o : Ordering) → by_hash hash p.0 ≡ o → AreFound entries (insert_entry by_hash pairs hash code)
        → AreFound entries (match_ordering o ((hash, code) ∷ p ∷ pairs) ((p.0, code) ∷ pairs) (p ∷ insert_entry by_hash pairs hash code))
    at Less e rest = (has, all)
    at Equal e rest = (subst (λ (h : List ℕ). HasCode entries (hash_of h) code.now) (slice_cmp-IsAntisymmetric nat_cmp-IsAntisymmetric hash p.0 e) has, all.1)
    at Greater e rest = (all.0, rest)

-- codes by their hashes rise
abbrev code_of_pair : Pair → Code
code_of_pair p = record { hash = hash_of p.0; code = p.1 }

behind : (x y : List ℕ) → by_hash x y ≡ Less → is_lt (by_hash y x) ≡ false
behind x y less = ap is_lt (nat_list_cmp_total.antisymm y x ∙ ap ordering_reverse less)

pub rising_codes : (pairs : List Pair) → IsStrictlySortedBy by_hash (keys_of pairs) → AreRising (codes_of pairs)
rising_codes pairs sorted k d low bound =
    let p : Pair = (d.hash.0, d.code) in
    let within : k + 1 < length pairs = subst (λ (n : ℕ). k + 1 < n) (length-map pairs code_of_pair) bound in
    let here = get_or-map code_of_pair pairs k p d (omega arith) in
    let next = get_or-map code_of_pair pairs (k + 1) p d within in
    let key = get_or-map (λ (e : Pair). e.0) pairs k p d.hash.0 (omega arith) in
    let next_key = get_or-map (λ (e : Pair). e.0) pairs (k + 1) p d.hash.0 within in
    let less = Less-from_sorted by_hash (keys_of pairs) k (k + 1) d.hash.0 sorted (omega arith) (subst (λ (n : ℕ). k + 1 < n) (sym (length-map pairs (λ (e : Pair). e.0))) within) in
    let below = sym (ap₂ by_hash key next_key) ∙ less in
    ap₂ (λ (a b : Code). is_lt (by_hash a.hash.0 b.hash.0)) next here ∙ behind (get_or pairs k p).0 (get_or pairs (k + 1) p).0 below

-- what holds of each pair holds of each code
pub found_codes : (entries : LedgerMap) (pairs : List Pair) → AreFound entries pairs → AllByRecursion (IsCodeIn entries) (codes_of pairs)
found_codes entries [] all = tt
found_codes entries (p ∷ pairs) all = (all.0, found_codes entries pairs all.1)

pub all_codes : (entries : LedgerMap) (pairs : List Pair) → AreFound entries pairs → All (IsCodeIn entries) (codes_of pairs)
all_codes entries pairs all = All-from_recursion (IsCodeIn entries) (codes_of pairs) (found_codes entries pairs all)

-- ---- keys whose codes are added

pub adds_none : (entries : LedgerMap) (codes : Codes) → AreFound entries codes.entries → Adds entries codes codes []
adds_none entries codes all = record { found = all; keeps = λ hash has. has; there = All-nil (IsThere entries codes); only = λ before all. subst (λ ks. AreOf ks codes.entries) (sym (append-nil before)) all }

pub adds_more : (entries : LedgerMap) (first old new : Codes) (done more : List LedgerKey) → Adds entries first old done → AreFound entries new.entries
    → KeepsHashes old new → All (IsThere entries new) more → AddsOnly old new more → Adds entries first new (done ++ more)
adds_more entries first old new done more adds all keeps there only = record {
  found = all;
  keeps = λ hash has. keeps hash (adds.keeps hash has);
  there = All-append (IsThere entries new) done more (λ k d l hash code e has. keeps hash.0 (adds.there k d l hash code e has)) there;
  only = λ before all. subst (λ ks. AreOf ks new.entries) (append_assoc before done more) (only (before ++ done) (adds.only before all));
}

-- an insertion loses no hash, and has its own
has_cond : (b : Bool) (code : Bor (List ℕ)) (o : Option (Bor (List ℕ))) → is_some o ≡ true → is_some (cond b (Some code) o) ≡ true
has_cond true code o has = refl
has_cond false code o has = has

pub insert_keeps : (old new : Codes) (hash : List ℕ) (code : Bor (List ℕ)) → Updates by_hash old new hash (Some code) → KeepsHashes old new
insert_keeps old new hash code updates q has = ap is_some (updates.0 q) ∙ has_cond (is_at (by_hash hash) q) code (get by_hash old q) has

equal_from : (o : Ordering) → is_eq o ≡ true → o ≡ Equal
equal_from Less e = absurd cc
equal_from Equal e = refl
equal_from Greater e = absurd cc

placed : (pairs : List Pair) (hash : Hash) (i : ℕ) (p : Pair) → slice_get pairs i ≡ Some p → p.0 ≡ hash.0 → IsAt (codes_of pairs) hash i
placed pairs hash i p is e =
    let within : i < length pairs = slice_get_within pairs i p is in
    record {
      inside = subst (λ (n : ℕ). i < n) (sym (length-map pairs code_of_pair)) within;
      here = λ d. ap (λ (c : Code). c.hash) (get_or-map code_of_pair pairs i p d within) ∙ ap hash_of (ap (λ (x : Pair). x.0) (get_or_from_slice_get pairs i p p is) ∙ e);
    }

-- the hash of a code is in the list
module _ (codes : Codes) (hash : Hash) where
  slot_at : (o : Option (Bor (List ℕ))) → get by_hash codes hash.0 ≡ o → is_some o ≡ true → (slot : ℕ) × IsAt (codes_of codes.entries) hash slot
  slot_at None is some = absurd cc
  slot_at (Some found) is some =
      let place = place_from_lookup (is_at (by_hash hash.0)) codes.entries found is in
      let same = slice_cmp-IsAntisymmetric nat_cmp-IsAntisymmetric hash.0 place.1 (equal_from (by_hash hash.0 place.1) place.3) in
      (place.0, placed codes.entries hash place.0 (place.1, found) place.2 (sym same))

pub there_shared : (entries : LedgerMap) (codes : Codes) (key : LedgerKey) → IsThere entries codes key → IsShared entries (codes_of codes.entries) key
there_shared entries codes key there hash code e has = slot_at codes hash (get by_hash codes hash.0) refl (there hash code e has)

pub all_shared : (entries : LedgerMap) (codes : Codes) (keys : List LedgerKey) → All (IsThere entries codes) keys → All (IsShared entries (codes_of codes.entries)) keys
all_shared entries codes keys there k d l = there_shared entries codes (get_or keys k d) (there k d l)

-- ---- key after key, and list after list

pub adds_key : (entries : LedgerMap) (first old new : Codes) (keys : List LedgerKey) (i : ℕ) (key : LedgerKey) → i < length keys → key ≡ get_or keys i key
    → Adds entries first old (take i keys) → AreFound entries new.entries → KeepsHashes old new → IsThere entries new key → AddsOnly old new (key ∷ []) → Adds entries first new (take (i + 1) keys)
adds_key entries first old new keys i key lt is adds all keeps there only =
    subst (λ (ks : List LedgerKey). Adds entries first new ks) (sym (take_more keys i key lt ∙ ap (λ (k : LedgerKey). take i keys ++ k ∷ []) (sym is)))
    (adds_more entries first old new (take i keys) (key ∷ []) adds all keeps (All-cons (IsThere entries new) key [] there (All-nil (IsThere entries new))) only)

pub adds_of : {A : Type 0} (keys : A → List LedgerKey) (entries : LedgerMap) (first old new : Codes) (xs : List A) (i : ℕ) (x : A) → i < length xs → x ≡ get_or xs i x
    → Adds entries first old (flat_map keys (take i xs)) → Adds entries old new (keys x) → Adds entries first new (flat_map keys (take (i + 1) xs))
adds_of keys entries first old new xs i x lt is adds more =
    subst (λ (ks : List LedgerKey). Adds entries first new ks)
    (sym (ap (flat_map keys) (take_more xs i x lt ∙ ap (λ y. take i xs ++ y ∷ []) (sym is)) ∙ flat_map-append keys (take i xs) (x ∷ []) ∙ ap (λ ks. flat_map keys (take i xs) ++ ks) (append-nil (keys x))))
    (adds_more entries first old new (flat_map keys (take i xs)) (keys x) adds more.found more.keeps more.there more.only)
