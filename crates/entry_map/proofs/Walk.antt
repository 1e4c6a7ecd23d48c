-- Loops that write bytes for each entry of a map: over the rows, and over the entries of a row.
use Rattle.std.specs.List.{AllByRecursion, flat_map}
use Rattle.std.specs.FinMap.{entries}
use Rattle.std.proofs.Common.{◌≡◌, ℕ, zero, suc, take, get_or, ◌+◌, ◌<◌, ◌≤◌, List, [], ◌∷◌, ◌++◌, length, append_assoc, sym, ap, subst, ◌∙◌, arith}
use Rattle.std.proofs.lemmas.List.{append-nil, take_more, take_all, flat_map_more}
use Rattle.std.proofs.lemmas.List.Concat.{flat_map-append}
use Rattle.std.proofs.lemmas.List.Elements.{recursion_from_All}
use Rattle.ledger_spec.specs.LedgerMap.{LedgerMap, IsKeptAt, IsLedgerMap}
use Rattle.entry_map.specs.Entries.{Boxed, kept_of, own_bytes, pair_of, pairs_of, IsAt}
use Rattle.entry_map.specs.Rows.{rows_of, joined}
use Rattle.entry_map.proofs.Sorted.{Pair, pairs_append, all_left, all_right}
use Rattle.entry_map.proofs.Places.{Row}

-- ---- what is kept

-- each entry of a map is kept at its key
pub kept_all : (m : LedgerMap) (es : List Boxed) → IsLedgerMap m → pairs_of es ≡ entries m → AllByRecursion IsAt (pairs_of es)
kept_all m es is e = subst (AllByRecursion IsAt) (sym e) (recursion_from_All IsAt (entries m) is.each)

pub kept_row : (vs : List Row) (i : ℕ) (v : Row) → AllByRecursion IsAt (pairs_of (joined (rows_of vs))) → i < length vs → v ≡ get_or vs i v → AllByRecursion IsAt (pairs_of v.items)
kept_row [] i v h lt e = absurd (omega arith)
kept_row (u ∷ vs) zero v h lt e =
    subst (λ (x : Row). AllByRecursion IsAt (pairs_of x.items)) (sym e)
    (all_left IsAt (pairs_of u.items) (pairs_of (joined (rows_of vs))) (subst (AllByRecursion IsAt) (pairs_append u.items (joined (rows_of vs))) h))
kept_row (u ∷ vs) (suc i) v h lt e =
    kept_row vs i v (all_right IsAt (pairs_of u.items) (pairs_of (joined (rows_of vs))) (subst (AllByRecursion IsAt) (pairs_append u.items (joined (rows_of vs))) h)) (omega arith) e

pub kept_item : (row : List Boxed) (i : ℕ) (x : Boxed) → AllByRecursion IsAt (pairs_of row) → i < length row → x ≡ get_or row i x → IsAt (pair_of x)
kept_item [] i x h lt e = absurd (omega arith)
kept_item (y ∷ row) zero x h lt e = subst (λ (z : Boxed). IsAt (pair_of z)) (sym e) h.0
kept_item (y ∷ row) (suc i) x h lt e = kept_item row i x h.1 (omega arith) e

-- an entry with the bytes of its own key
abbrev pub at_own_key : Boxed → Pair
at_own_key held = (own_bytes held, kept_of held)

pub kept_own : (x : Boxed) → IsAt (pair_of x) → IsKeptAt (own_bytes x) (kept_of x)
kept_own x is = subst (λ (b : List ℕ). IsKeptAt b (kept_of x)) is.keyed is

own_is : (x : Boxed) → IsAt (pair_of x) → at_own_key x ≡ pair_of x
own_is x is = ap (λ (b : List ℕ). (b, kept_of x)) (sym is.keyed)

-- ---- the bytes of a row

module _ (f : Pair → List ℕ) (old : List ℕ) where
  pub row_none : (row : List Boxed) → old ≡ old ++ flat_map f (pairs_of (take 0 row))
  row_none row = sym (append-nil old)

  pub row_more : (out more : List ℕ) (row : List Boxed) (i : ℕ) (x : Boxed) → AllByRecursion IsAt (pairs_of row) → i < length row → x ≡ get_or row i x
      → out ≡ old ++ flat_map f (pairs_of (take i row)) → more ≡ out ++ f (at_own_key x) → more ≡ old ++ flat_map f (pairs_of (take (i + 1) row))
  row_more out more row i x h lt e before is =
      let pairs : pairs_of (take i row) ++ pair_of x ∷ [] ≡ pairs_of (take (i + 1) row) =
      sym (pairs_append (take i row) (x ∷ []))
      ∙ ap (λ (y : Boxed). pairs_of (take i row ++ y ∷ [])) e ∙ ap pairs_of (sym (take_more row i x lt)) in
      is ∙ ap (λ (p : Pair). out ++ f p) (own_is x (kept_item row i x h lt e))
      ∙ ap (λ (o : List ℕ). o ++ f (pair_of x)) before
      ∙ flat_map_more f old (pairs_of (take i row)) (pair_of x)
      ∙ ap (λ (ps : List Pair). old ++ flat_map f ps) pairs

  pub row_all : (out : List ℕ) (row : List Boxed) (i : ℕ) → length row ≤ i → out ≡ old ++ flat_map f (pairs_of (take i row)) → out ≡ old ++ flat_map f (pairs_of row)
  row_all out row i le is = is ∙ ap (λ (es : List Boxed). old ++ flat_map f (pairs_of es)) (take_all i row le)

  -- ---- the bytes of all rows

  pub rows_none : (vs : List Row) → old ≡ old ++ flat_map f (pairs_of (joined (rows_of (take 0 vs))))
  rows_none vs = sym (append-nil old)

  joined_snoc : (us : List Row) (v : Row) → joined (rows_of (us ++ v ∷ [])) ≡ joined (rows_of us) ++ v.items
  joined_snoc [] v = append-nil v.items
  joined_snoc (u ∷ us) v = ap (λ (s : List Boxed). u.items ++ s) (joined_snoc us v) ∙ sym (append_assoc u.items (joined (rows_of us)) v.items)

  joined_more : (vs : List Row) (i : ℕ) (v : Row) → i < length vs → v ≡ get_or vs i v → joined (rows_of (take (i + 1) vs)) ≡ joined (rows_of (take i vs)) ++ v.items
  joined_more vs i v lt e =
      ap (λ (us : List Row). joined (rows_of us)) (take_more vs i v lt)
      ∙ ap (λ (u : Row). joined (rows_of (take i vs ++ u ∷ []))) (sym e)
      ∙ joined_snoc (take i vs) v

  pub rows_more : (out more : List ℕ) (vs : List Row) (i : ℕ) (v : Row) → i < length vs → v ≡ get_or vs i v
      → out ≡ old ++ flat_map f (pairs_of (joined (rows_of (take i vs)))) → more ≡ out ++ flat_map f (pairs_of v.items)
      → more ≡ old ++ flat_map f (pairs_of (joined (rows_of (take (i + 1) vs))))
  rows_more out more vs i v lt e before is =
      let done : List Pair = pairs_of (joined (rows_of (take i vs))) in
      is ∙ ap (λ (o : List ℕ). o ++ flat_map f (pairs_of v.items)) before
      ∙ append_assoc old (flat_map f done) (flat_map f (pairs_of v.items))
      ∙ ap (λ (r : List ℕ). old ++ r) (sym (flat_map-append f done (pairs_of v.items)))
      ∙ ap (λ (ps : List Pair). old ++ flat_map f ps) (sym (pairs_append (joined (rows_of (take i vs))) v.items))
      ∙ ap (λ (es : List Boxed). old ++ flat_map f (pairs_of es)) (sym (joined_more vs i v lt e))

  pub rows_all : (out : List ℕ) (vs : List Row) (i : ℕ) (all : List Pair) → length vs ≤ i → out ≡ old ++ flat_map f (pairs_of (joined (rows_of (take i vs))))
      → pairs_of (joined (rows_of vs)) ≡ all → out ≡ old ++ flat_map f all
  rows_all out vs i all le is e =
      is ∙ ap (λ (us : List Row). old ++ flat_map f (pairs_of (joined (rows_of us)))) (take_all i vs le) ∙ ap (λ (ps : List Pair). old ++ flat_map f ps) e
