-- Codes whose keys are among some keys.
use Rattle.std.proofs.Common.{◌≡◌, ℕ, zero, suc, List, [], ◌∷◌, ◌++◌, Some, Ordering, All, slice_get, ap}
use Rattle.std.specs.Borrow.{Bor}
use Rattle.std.specs.List.{AllByRecursion}
use Rattle.std.specs.Ordering.{nat_cmp, match_ordering}
use Rattle.std.specs.declared.cmp.Ordering.TheVariants.{Less, Equal, Greater}
use Rattle.std.specs.Cmp.Lexicographic.{slice_cmp}
use Rattle.std.specs.BTreeMap.{insert_entry}
use Rattle.std.proofs.lemmas.List.Elements.{All-from_recursion}
use Rattle.ledger_types.specs.declared.key.LedgerKey.{LedgerKey}
use Rattle.ledger_types.specs.declared.key.LedgerKey.TheVariants as keys
use Rattle.value_types.specs.Hash.{hash_of}
use Rattle.value_types.specs.declared.hash.Hash.{Hash}
use Rattle.code_cache.specs.declared.cache.Code.{Code}
use Rattle.stage_codes.specs.Found.{HasKeyOf, codes_of, AreOf}

-- a key of a list is one of the list and of more keys
get_left : (xs more : List LedgerKey) (i : ℕ) (x : LedgerKey) → slice_get xs i ≡ Some x → slice_get (xs ++ more) i ≡ Some x
get_left [] more i x e = absurd cc
get_left (z ∷ xs) more zero x e = e
get_left (z ∷ xs) more (suc i) x e = get_left xs more i x e

-- the last key of a list is one of it
pub last_key : (xs : List LedgerKey) (key : LedgerKey) (hash : Hash) → key ≡ keys.ContractCode hash → HasKeyOf (xs ++ key ∷ []) hash
last_key [] key hash e = (zero, ap Some e)
last_key (x ∷ xs) key hash e = let there = last_key xs key hash e in (suc there.0, there.1)

-- codes of some keys are codes of these keys and of more
pub of_wider : (xs more : List LedgerKey) (pairs : List (List ℕ × Bor (List ℕ))) → AreOf xs pairs → AreOf (xs ++ more) pairs
of_wider xs more [] all = tt
of_wider xs more (p ∷ pairs) all = ((all.0.0, get_left xs more all.0.0 (keys.ContractCode (hash_of p.0)) all.0.1), of_wider xs more pairs all.1)

-- an insertion of a code of these keys
pub of_more : (xs : List LedgerKey) (pairs : List (List ℕ × Bor (List ℕ))) (hash : List ℕ) (code : Bor (List ℕ)) → AreOf xs pairs
    → HasKeyOf xs (hash_of hash) → AreOf xs (insert_entry (slice_cmp nat_cmp) pairs hash code)
of_more xs [] hash code all has = (has, tt)
of_more xs (p ∷ pairs) hash code all has = at (slice_cmp nat_cmp hash p.0) (of_more xs pairs hash code all.1 has)
  where
    at : (o : Ordering) → AreOf xs (insert_entry (slice_cmp nat_cmp) pairs hash code)
        → AreOf xs (match_ordering o ((hash, code) ∷ p ∷ pairs) ((p.0, code) ∷ pairs) (p ∷ insert_entry (slice_cmp nat_cmp) pairs hash code))
    at Less rest = (has, all)
    at Equal rest = all
    at Greater rest = (all.0, rest)

-- the same of the codes
of_codes : (xs : List LedgerKey) (pairs : List (List ℕ × Bor (List ℕ))) → AreOf xs pairs → AllByRecursion (λ (c : Code). HasKeyOf xs c.hash) (codes_of pairs)
of_codes xs [] all = tt
of_codes xs (p ∷ pairs) all = (all.0, of_codes xs pairs all.1)

pub all_of : (xs : List LedgerKey) (pairs : List (List ℕ × Bor (List ℕ))) → AreOf xs pairs → All (λ (c : Code). HasKeyOf xs c.hash) (codes_of pairs)
all_of xs pairs all = All-from_recursion (λ (c : Code). HasKeyOf xs c.hash) (codes_of pairs) (of_codes xs pairs all)
