-- A search among the rows and in a row.
use Rattle.std.specs.Prelude.{slice_get}
use Rattle.std.specs.List.{AllByRecursion}
use Rattle.std.specs.declared.cmp.Ordering.{Ordering}
use Rattle.std.specs.declared.cmp.Ordering.TheVariants.{Less, Equal, Greater}
use Rattle.std.specs.Ordering.{is_lt}
use Rattle.std.proofs.Common.{◌≡◌, ℕ, zero, suc, get_or, take, drop, ◌+◌, ◌-◌, ◌<◌, ◌≤◌, true, false, List, [], ◌∷◌, ◌++◌, length, Some, refl, sym, ap, subst, ◌∙◌, append_assoc, arith}
use Rattle.std.proofs.lemmas.List.{append-nil, take-append-drop}
use Rattle.entry_map.specs.Entries.{Boxed, own_key, pairs_of, AreSorted}
use Rattle.entry_map.specs.Rows.{joined, before, after, ends_below, HasEntry, AreBelow, AreAbove, IsGapIn, IsGapAt}
use Rattle.entry_map.proofs.Sorted.{order, all_append, sorted_left, sorted_right, high_side, with_below, with_above, through_not_less}
use Rattle.entry_map.proofs.Places.{Rows, joined_split, drop_cons, take_snoc, before_start, before_from, after_from, after_end, plus_one}

-- ---- the last entry of a row

pub last_below : (q : List ℕ) (es : List Boxed) (x : Boxed) → slice_get es (length es - 1) ≡ Some x → is_lt (order (own_key x) q) ≡ ends_below q es
last_below q [] x e = cc
last_below q (y ∷ []) x e = let same : x ≡ y = cc in ap (λ (z : Boxed). is_lt (order (own_key z) q)) same
last_below q (y ∷ z ∷ es) x e = last_below q (z ∷ es) x (ap (slice_get (y ∷ z ∷ es)) (sym (one_less (length es))) ∙ e)
  where
    one_less : (n : ℕ) → suc (suc n) - 1 ≡ suc (suc n - 1)
    one_less n = omega arith

-- the last of some entries, and those before it
pub record Ended (q : List ℕ) (all row : List Boxed) : Type 0 where
  pub front : List Boxed
  pub last : Boxed
  pub is : all ≡ front ++ last ∷ []
  pub says : ends_below q row ≡ is_lt (order (own_key last) q)

row_ended : (q : List ℕ) (row : List Boxed) → HasEntry row → Ended q row row
row_ended q [] h = absurd (omega arith)
row_ended q (x ∷ []) h = record { front = []; last = x; is = refl; says = refl }
row_ended q (x ∷ y ∷ row) h =
    let e = row_ended q (y ∷ row) (omega arith) in
    record { front = x ∷ e.front; last = e.last; is = ap (λ (s : List Boxed). x ∷ s) e.is; says = e.says }

ended : (q : List ℕ) (rows : Rows) (i : ℕ) → i < length rows → AllByRecursion HasEntry rows → Ended q (before rows (suc i) 0) (get_or rows i [])
ended q [] i lt f = absurd (omega arith)
ended q (r ∷ rows) zero lt f =
    let e = row_ended q r f.0 in
    record { front = e.front; last = e.last; is = ap (λ (s : List Boxed). r ++ s) (before_start rows) ∙ append-nil r ∙ e.is; says = e.says }
ended q (r ∷ rows) (suc i) lt f =
    let e = ended q rows i (omega arith) f.1 in
    record { front = r ++ e.front; last = e.last; is = ap (λ (s : List Boxed). r ++ s) e.is ∙ sym (append_assoc r e.front (e.last ∷ [])); says = e.says }

around : (q : List ℕ) (rows : Rows) (i : ℕ) (e : Ended q (before rows (suc i) 0) (get_or rows i [])) → joined rows ≡ e.front ++ e.last ∷ after rows (suc i) 0
around q rows i e =
    joined_split rows (suc i) 0 ∙ ap (λ (s : List Boxed). s ++ after rows (suc i) 0) e.is ∙ append_assoc e.front (e.last ∷ []) (after rows (suc i) 0)

less_from : (o : Ordering) → is_lt o ≡ true → o ≡ Less
less_from Less e = refl
less_from Equal e = cc
less_from Greater e = cc

-- a row that ends below these bytes, and all rows before it
pub row_low : (q : List ℕ) (rows : Rows) (i : ℕ) → i < length rows → AllByRecursion HasEntry rows → AreSorted (pairs_of (joined rows)) → ends_below q (get_or rows i []) ≡ true
    → AreBelow q (before rows (i + 1) 0)
row_low q rows i lt f s below =
    let e = ended q rows i lt f in
    subst (AreBelow q) (sym (ap (λ (j : ℕ). before rows j 0) (plus_one i) ∙ e.is))
    (with_below q e.front e.last (after rows (suc i) 0) (subst (λ (es : List Boxed). AreSorted (pairs_of es)) (around q rows i e) s)
    (less_from (order (own_key e.last) q) (sym e.says ∙ below)))

-- a row that does not, and all rows after it
pub row_high : (q : List ℕ) (rows : Rows) (i : ℕ) → i < length rows → AllByRecursion HasEntry rows → AreSorted (pairs_of (joined rows)) → ends_below q (get_or rows i []) ≡ false
    → AreAbove q (after rows (suc i) 0)
row_high q rows i lt f s above =
    let e = ended q rows i lt f in
    through_not_less q (after rows (suc i) 0) e.last (sym e.says ∙ above)
    (high_side e.front e.last (after rows (suc i) 0) (subst (λ (es : List Boxed). AreSorted (pairs_of es)) (around q rows i e) s))

pub all_after : (q : List ℕ) (rows : Rows) (i : ℕ) → length rows ≤ i → AreAbove q (after rows i 0)
all_after q rows i le = subst (AreAbove q) (sym (after_end rows i 0 le)) tt

pub none_before : (q : List ℕ) (rows : Rows) → AreBelow q (before rows 0 0)
none_before q rows = subst (AreBelow q) (sym (before_start rows)) tt

-- ---- an entry in the middle of a row

middle : (row : List Boxed) (i : ℕ) (d : Boxed) → i < length row → row ≡ take i row ++ get_or row i d ∷ drop (suc i) row
middle row i d lt = sym (take-append-drop i row) ∙ ap (λ (s : List Boxed). take i row ++ s) (drop_cons row i d lt)

middle_sorted : (row : List Boxed) (i : ℕ) (d : Boxed) → i < length row → AreSorted (pairs_of row) → AreSorted (pairs_of (take i row ++ get_or row i d ∷ drop (suc i) row))
middle_sorted row i d lt s = subst (λ (es : List Boxed). AreSorted (pairs_of es)) (middle row i d lt) s

pub index_low : (q : List ℕ) (row : List Boxed) (i : ℕ) (d : Boxed) → i < length row → AreSorted (pairs_of row) → order (own_key (get_or row i d)) q ≡ Less → AreBelow q (take (i + 1) row)
index_low q row i d lt s less =
    subst (AreBelow q) (sym (ap (λ (j : ℕ). take j row) (plus_one i) ∙ take_snoc row i d lt)) (with_below q (take i row) (get_or row i d) (drop (suc i) row) (middle_sorted row i d lt s) less)

pub index_high : (q : List ℕ) (row : List Boxed) (i : ℕ) (d : Boxed) → i < length row → AreSorted (pairs_of row) → order (own_key (get_or row i d)) q ≡ Greater → AreAbove q (drop i row)
index_high q row i d lt s greater =
    subst (AreAbove q) (sym (drop_cons row i d lt)) (with_above q (take i row) (get_or row i d) (drop (suc i) row) (middle_sorted row i d lt s) greater)

-- ---- a place in rows

pub row_sorted : (rows : Rows) (i : ℕ) → i < length rows → AreSorted (pairs_of (joined rows)) → AreSorted (pairs_of (get_or rows i []))
row_sorted [] i lt s = absurd (omega arith)
row_sorted (r ∷ rows) zero lt s = sorted_left r (joined rows) s
row_sorted (r ∷ rows) (suc i) lt s = row_sorted rows i (omega arith) (sorted_right r (joined rows) s)

pub placed_gap : (q : List ℕ) (rows : Rows) (i k : ℕ) → i < length rows → AreBelow q (before rows i 0) → AreAbove q (after rows (suc i) 0) → IsGapIn q (get_or rows i []) k
    → IsGapAt q rows (record { row = i; index = k })
placed_gap q rows i k lt low high gap = record {
  gap = record { row = λ some. lt; index = gap.within };
  below = subst (AreBelow q) (sym (before_from rows i k lt))
      (all_append (λ (e : Boxed). order (own_key e) q ≡ Less) (before rows i 0) (take k (get_or rows i [])) low gap.below);
  above = subst (AreAbove q) (sym (after_from rows i k lt))
      (all_append (λ (e : Boxed). order q (own_key e) ≡ Less) (drop k (get_or rows i [])) (after rows (suc i) 0) gap.above high);
}
