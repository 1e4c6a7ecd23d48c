-- Sets of keys, by the keys' bytes.
use Rattle.std.specs.Str.{bytes_eq}
use Rattle.std.specs.Ordering.{match_ordering}
use Rattle.std.specs.declared.cmp.Ordering.TheVariants.{Less, Equal, Greater}
use Rattle.std.specs.FinMap.{slice_cmp-IsAntisymmetric, nat_cmp-IsAntisymmetric}
use Rattle.std.specs.Map.{keys_of, lookup}
use Rattle.std.specs.BTreeMap.{is_at, insert_entry}
use Rattle.std.specs.Prelude.{is_some}
use Rattle.std.proofs.Common.{◌≡◌, ℕ, Bool, true, false, ◌||◌, cond, List, [], ◌∷◌, ◌++◌, Option, Some, refl, sym, ap, ap₂, ◌∙◌}
use Rattle.std.proofs.lemmas.Map.Text.{is_eq-slice_cmp}
use Rattle.std.proofs.lemmas.Slice.Eq.{bytes_eq-Decides}
use Rattle.std.proofs.lemmas.List.Folds.{list_any-append}
use Rattle.ledger_types.specs.Key.{key_format}
use Rattle.ledger_types.specs.KeyOrder.{key_cmp, ranked_key}
use Rattle.ledger_types.specs.declared.key.LedgerKey.{LedgerKey}
use Rattle.ledger_types.proofs.Lemmas.{key_ranked}
use Rattle.ledger_spec.specs.LedgerMap.{key_bytes}
use Rattle.ledger_parts.specs.Shown.{is_read}

-- ---- a look-up

some_either : {X : Type 0} (x : X) (a : Bool) (o : Option X) → is_some (cond a (Some x) o) ≡ (a || is_some o)
some_either x true o = refl
some_either x false o = refl

-- a key is found where one of its rank is in the list
pub found_rank : {X : Type 0} (key : LedgerKey) (es : List (LedgerKey × X)) → is_some (lookup (is_at (key_cmp key)) es) ≡ is_read (keys_of es) (ranked_key key)
found_rank key [] = refl
found_rank key (e ∷ es) =
    some_either e.1 (is_at (key_cmp key) e.0) (lookup (is_at (key_cmp key)) es)
    ∙ ap₂ (λ a o. a || o) (is_eq-slice_cmp (ranked_key key) (ranked_key e.0)) (found_rank key es)

-- a key within its XDR format is found where one with its bytes is in the list
pub found_read : {X : Type 0} (key : LedgerKey) (es : List (LedgerKey × X)) → key_format.fits key
    → is_some (lookup (is_at (key_cmp key)) es) ≡ is_read (keys_of es) (key_bytes key)
found_read key es f = found_rank key es ∙ ap (is_read (keys_of es)) (key_ranked key f)

-- ---- a new key

or_same : (a o : Bool) → (a || o) ≡ ((a || o) || a)
or_same true o = refl
or_same false true = refl
or_same false false = refl

or_swap : (a b : Bool) → (a || b) ≡ (b || a)
or_swap true true = refl
or_swap true false = refl
or_swap false true = refl
or_swap false false = refl

or_last : (a b o : Bool) → (a || (o || b)) ≡ ((a || o) || b)
or_last true b o = refl
or_last false b o = refl

same_rank : (k l : LedgerKey) → key_cmp k l ≡ Equal → ranked_key k ≡ ranked_key l
same_rank k l e = slice_cmp-IsAntisymmetric nat_cmp-IsAntisymmetric (ranked_key k) (ranked_key l) e

pub read_inserted : {X : Type 0} (k : LedgerKey) (x : X) (es : List (LedgerKey × X)) (q : List ℕ)
    → is_read (keys_of (insert_entry key_cmp es k x)) q ≡ is_read (keys_of es) q || bytes_eq q (ranked_key k)
read_inserted k x [] q = or_swap (bytes_eq q (ranked_key k)) false
read_inserted {X} k x (e ∷ es) q =
    elim (key_cmp k e.0) as (λ o. key_cmp k e.0 ≡ o → is_read (keys_of (match_ordering o ((k, x) ∷ e ∷ es) ((e.0, x) ∷ es) (e ∷ insert_entry key_cmp es k x))) q
    ≡ is_read (keys_of (e ∷ es)) q || bytes_eq q (ranked_key k)) [
      | Less ↦ λ p. or_swap (bytes_eq q (ranked_key k)) (is_read (keys_of (e ∷ es)) q)
      | Equal ↦ λ p.
          or_same (bytes_eq q (ranked_key e.0)) (is_read (keys_of es) q)
          ∙ ap (λ (r : List ℕ). is_read (keys_of (e ∷ es)) q || bytes_eq q r) (sym (same_rank k e.0 p))
      | Greater ↦ λ p.
          ap (λ o. bytes_eq q (ranked_key e.0) || o) (read_inserted k x es q)
          ∙ or_last (bytes_eq q (ranked_key e.0)) (bytes_eq q (ranked_key k)) (is_read (keys_of es) q)
    ] refl

-- a key that is there already
pub read_already : (keys : List LedgerKey) (k : LedgerKey) (q : List ℕ) → is_read keys (ranked_key k) ≡ true → is_read keys q ≡ is_read keys q || bytes_eq q (ranked_key k)
read_already keys k q there = at (bytes_eq q (ranked_key k)) refl
  where
    at : (b : Bool) → bytes_eq q (ranked_key k) ≡ b → is_read keys q ≡ is_read keys q || b
    at true e = let here : is_read keys q ≡ true = ap (is_read keys) ((bytes_eq-Decides q (ranked_key k)).0 e) ∙ there in here ∙ sym (ap (λ a. a || true) here)
    at false e = or_swap false (is_read keys q)

-- ---- lists of keys

pub read_both : (keys more : List LedgerKey) (q : List ℕ) → is_read (keys ++ more) q ≡ is_read keys q || is_read more q
read_both keys more q = list_any-append (λ (k : LedgerKey). bytes_eq q (ranked_key k)) keys more

-- one more key of a list
pub read_more : (keys : List LedgerKey) (k : LedgerKey) (a : Bool) (q : List ℕ) → (a || is_read keys q) || bytes_eq q (ranked_key k) ≡ a || is_read (keys ++ k ∷ []) q
read_more keys k a q =
    sym (or_last a (bytes_eq q (ranked_key k)) (is_read keys q))
    ∙ ap (λ o. a || o) (ap (λ o. is_read keys q || o) (or_swap false (bytes_eq q (ranked_key k))) ∙ sym (read_both keys (k ∷ []) q))
