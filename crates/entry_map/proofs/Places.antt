-- Places in rows.
use Rattle.std.specs.Prelude.{if◌then◌else◌}
use Rattle.std.specs.List.{AllByRecursion, remove, insert}
use Rattle.std.specs.Global.{Vec}
use Rattle.std.proofs.Common.{◌≡◌, ℕ, zero, suc, get_or, set, take, drop, ◌+◌, ◌-◌, ◌<◌, ◌≤◌, List, [], ◌∷◌, ◌++◌, length, nat_le, true, false, Result, Ok, Err, OnErr, refl, sym, ap, ap₂, subst, ◌∙◌, append_assoc, arith}
use Rattle.std.proofs.lemmas.List.{append-nil, take-append-drop, take-take, length-map, length-set, length-take-le, length-drop, map-set, set_split, drop-drop, get_or_read}
use Rattle.std.proofs.lemmas.Bool.Decides.{nat_tests}
use Rattle.entry_map.specs.Entries.{Boxed, pair_of, pairs_of}
use Rattle.entry_map.specs.Rows.{rows_of, joined, before, after, cut, moved, HasEntry}
use Rattle.entry_map.specs.declared.rows.Place.{Place}
use Rattle.entry_map.proofs.Sorted.{Pair, pairs_append}

abbrev pub Row : Type 0
Row = Vec Boxed

abbrev pub Rows : Type 0
Rows = List (List Boxed)

-- ---- the entries around a place

pub joined_split : (rows : Rows) (i k : ℕ) → joined rows ≡ before rows i k ++ after rows i k
joined_split [] i k = refl
joined_split (r ∷ rows) zero k =
    ap (λ (s : List Boxed). s ++ joined rows) (sym (take-append-drop k r)) ∙ append_assoc (take k r) (drop k r) (joined rows)
joined_split (r ∷ rows) (suc i) k = ap (λ (s : List Boxed). r ++ s) (joined_split rows i k) ∙ sym (append_assoc r (before rows i k) (after rows i k))

pub drop_cons : (r : List Boxed) (k : ℕ) (d : Boxed) → k < length r → drop k r ≡ get_or r k d ∷ drop (suc k) r
drop_cons [] k d lt = absurd (omega arith)
drop_cons (x ∷ r) zero d lt = refl
drop_cons (x ∷ r) (suc k) d lt = drop_cons r k d (omega arith)

pub take_snoc : (r : List Boxed) (k : ℕ) (d : Boxed) → k < length r → take (suc k) r ≡ take k r ++ get_or r k d ∷ []
take_snoc [] k d lt = absurd (omega arith)
take_snoc (x ∷ r) zero d lt = refl
take_snoc (x ∷ r) (suc k) d lt = ap (λ (s : List Boxed). x ∷ s) (take_snoc r k d (omega arith))

pub after_entry : (rows : Rows) (i k : ℕ) (d : Boxed) → i < length rows → k < length (get_or rows i []) → after rows i k ≡ get_or (get_or rows i []) k d ∷ after rows i (suc k)
after_entry [] i k d lt within = absurd (omega arith)
after_entry (r ∷ rows) zero k d lt within = ap (λ (s : List Boxed). s ++ joined rows) (drop_cons r k d within)
after_entry (r ∷ rows) (suc i) k d lt within = after_entry rows i k d (omega arith) within

pub place_split : (rows : Rows) (i k : ℕ) (d : Boxed) → i < length rows → k < length (get_or rows i []) → joined rows ≡ before rows i k ++ get_or (get_or rows i []) k d ∷ after rows i (suc k)
place_split rows i k d lt within = joined_split rows i k ∙ ap (λ (s : List Boxed). before rows i k ++ s) (after_entry rows i k d lt within)

pub before_start : (rows : Rows) → before rows 0 0 ≡ []
before_start [] = refl
before_start (r ∷ rows) = refl

after_start : (rows : Rows) → after rows 0 0 ≡ joined rows
after_start [] = refl
after_start (r ∷ rows) = refl

pub after_end : (rows : Rows) (i k : ℕ) → length rows ≤ i → after rows i k ≡ []
after_end [] i k le = refl
after_end (r ∷ rows) zero k le = absurd (omega arith)
after_end (r ∷ rows) (suc i) k le = after_end rows i k (omega arith)

pub before_from : (rows : Rows) (i k : ℕ) → i < length rows → before rows i k ≡ before rows i 0 ++ take k (get_or rows i [])
before_from [] i k lt = absurd (omega arith)
before_from (r ∷ rows) zero k lt = refl
before_from (r ∷ rows) (suc i) k lt =
    ap (λ (s : List Boxed). r ++ s) (before_from rows i k (omega arith)) ∙ sym (append_assoc r (before rows i 0) (take k (get_or rows i [])))

pub after_from : (rows : Rows) (i k : ℕ) → i < length rows → after rows i k ≡ drop k (get_or rows i []) ++ after rows (suc i) 0
after_from [] i k lt = absurd (omega arith)
after_from (r ∷ rows) zero k lt = ap (λ (s : List Boxed). drop k r ++ s) (sym (after_start rows))
after_from (r ∷ rows) (suc i) k lt = after_from rows i k (omega arith)

drop_length : (r : List Boxed) → drop (length r) r ≡ []
drop_length [] = refl
drop_length (x ∷ r) = drop_length r

pub nothing_after : (rows : Rows) (i : ℕ) → length rows ≡ suc i → after rows i (length (get_or rows i [])) ≡ []
nothing_after [] i e = absurd (omega arith)
nothing_after (r ∷ []) zero e = ap (λ (s : List Boxed). s ++ []) (drop_length r)
nothing_after (r ∷ s ∷ rows) zero e = absurd (omega arith)
nothing_after (r ∷ rows) (suc i) e = nothing_after rows i (omega arith)

-- ---- a row that changes

-- one row is another list, which differs from it between two indices
pub changed : (rows : Rows) (i k m : ℕ) (row : List Boxed) (xs : List Pair) → i < length rows
    → pairs_of row ≡ pairs_of (take k (get_or rows i [])) ++ (xs ++ pairs_of (drop m (get_or rows i [])))
    → pairs_of (joined (set rows i row)) ≡ pairs_of (before rows i k) ++ (xs ++ pairs_of (after rows i m))
changed [] i k m row xs lt e = absurd (omega arith)
changed (r ∷ rows) zero k m row xs lt e =
    pairs_append row (joined rows)
    ∙ ap (λ (s : List Pair). s ++ pairs_of (joined rows)) e
    ∙ append_assoc (pairs_of (take k r)) (xs ++ pairs_of (drop m r)) (pairs_of (joined rows))
    ∙ ap (λ (s : List Pair). pairs_of (take k r) ++ s)
    (append_assoc xs (pairs_of (drop m r)) (pairs_of (joined rows)) ∙ ap (λ (s : List Pair). xs ++ s) (sym (pairs_append (drop m r) (joined rows))))
changed (r ∷ rows) (suc i) k m row xs lt e =
    pairs_append r (joined (set rows i row))
    ∙ ap (λ (s : List Pair). pairs_of r ++ s) (changed rows i k m row xs (omega arith) e)
    ∙ sym (append_assoc (pairs_of r) (pairs_of (before rows i k)) (xs ++ pairs_of (after rows i m)))
    ∙ ap (λ (s : List Pair). s ++ (xs ++ pairs_of (after rows i m))) (sym (pairs_append r (before rows i k)))

pub full_set : (rows : Rows) (i : ℕ) (row : List Boxed) → AllByRecursion HasEntry rows → HasEntry row → AllByRecursion HasEntry (set rows i row)
full_set [] i row f h = tt
full_set (r ∷ rows) zero row f h = (h, f.1)
full_set (r ∷ rows) (suc i) row f h = (f.0, full_set rows i row f.1 h)

pub full_back : (rows : Rows) (i : ℕ) → AllByRecursion HasEntry (remove rows i) → HasEntry (get_or rows i []) → i < length rows → AllByRecursion HasEntry rows
full_back [] i f h lt = tt
full_back (r ∷ rows) zero f h lt = (h, f)
full_back (r ∷ rows) (suc i) f h lt = (f.0, full_back rows i f.1 h (omega arith))

-- ---- rows as the code has them

pub length_rows : (vs : List Row) → length (rows_of vs) ≡ length vs
length_rows vs = length-map vs (λ (v : Row). v.items)

pub row_is : (vs : List Row) (i : ℕ) (v : Row) → i < length vs → v ≡ get_or vs i v → get_or (rows_of vs) i [] ≡ v.items
row_is [] i v lt e = absurd (omega arith)
row_is (w ∷ vs) zero v lt e = ap (λ (x : Row). x.items) (sym e)
row_is (w ∷ vs) (suc i) v lt e = row_is vs i v (omega arith) e

pub rows_set : (vs : List Row) (i : ℕ) (w : Row) → rows_of (set vs i w) ≡ set (rows_of vs) i w.items
rows_set vs i w = map-set (λ (v : Row). v.items) vs i w

pub same_row : (vs : List Row) (i : ℕ) (v w : Row) → i < length vs → v ≡ get_or vs i v → w.items ≡ v.items → rows_of (set vs i w) ≡ rows_of vs
same_row [] i v w lt e is = absurd (omega arith)
same_row (u ∷ vs) zero v w lt e is = ap (λ (r : List Boxed). r ∷ rows_of vs) (is ∙ ap (λ (x : Row). x.items) e)
same_row (u ∷ vs) (suc i) v w lt e is = ap (λ (r : Rows). u.items ∷ r) (same_row vs i v w (omega arith) e is)

pub rows_remove : (vs : List Row) (i : ℕ) → rows_of (remove vs i) ≡ remove (rows_of vs) i
rows_remove [] zero = refl
rows_remove [] (suc i) = refl
rows_remove (v ∷ vs) zero = refl
rows_remove (v ∷ vs) (suc i) = ap (λ (r : Rows). v.items ∷ r) (rows_remove vs i)

no_items : (r : List Boxed) → length r ≡ 0 → r ≡ []
no_items [] e = refl
no_items (x ∷ r) e = absurd (omega arith)

pub joined_remove : (rows : Rows) (i : ℕ) → i < length rows → length (get_or rows i []) ≡ 0 → joined (remove rows i) ≡ joined rows
joined_remove [] i lt e = absurd (omega arith)
joined_remove (r ∷ rows) zero lt e = ap (λ (s : List Boxed). s ++ joined rows) (sym (no_items r e))
joined_remove (r ∷ rows) (suc i) lt e = ap (λ (s : List Boxed). r ++ s) (joined_remove rows i (omega arith) e)

pub pushed_row : (vs : List Row) (w : Row) (x : Boxed) → w.items ≡ x ∷ [] → pairs_of (joined (rows_of (vs ++ w ∷ []))) ≡ pairs_of (joined (rows_of vs)) ++ pair_of x ∷ []
pushed_row [] w x e = ap (λ (r : List Boxed). pairs_of (r ++ [])) e
pushed_row (v ∷ vs) w x e =
    pairs_append v.items (joined (rows_of (vs ++ w ∷ [])))
    ∙ ap (λ (s : List Pair). pairs_of v.items ++ s) (pushed_row vs w x e)
    ∙ sym (append_assoc (pairs_of v.items) (pairs_of (joined (rows_of vs))) (pair_of x ∷ []))
    ∙ ap (λ (s : List Pair). s ++ pair_of x ∷ []) (sym (pairs_append v.items (joined (rows_of vs))))

-- ---- a row that is cut in two

pub cut_rows : (vs : List Row) (i n : ℕ) (v w rest : Row) → i < length vs → v ≡ get_or vs i v → w.items ≡ take n v.items → rest.items ≡ drop n v.items
    → rows_of (take (suc i) (set vs i w) ++ rest ∷ drop (suc i) (set vs i w)) ≡ cut (rows_of vs) i n
cut_rows [] i n v w rest lt e low high = absurd (omega arith)
cut_rows (u ∷ vs) zero n v w rest lt e low high =
    ap₂ (λ (a b : List Boxed). a ∷ b ∷ rows_of vs) (low ∙ ap (λ (x : Row). take n x.items) e) (high ∙ ap (λ (x : Row). drop n x.items) e)
cut_rows (u ∷ vs) (suc i) n v w rest lt e low high = ap (λ (r : Rows). u.items ∷ r) (cut_rows vs i n v w rest (omega arith) e low high)

pub joined_cut : (rows : Rows) (i n : ℕ) → joined (cut rows i n) ≡ joined rows
joined_cut [] i n = refl
joined_cut (r ∷ rows) zero n = sym (append_assoc (take n r) (drop n r) (joined rows)) ∙ ap (λ (s : List Boxed). s ++ joined rows) (take-append-drop n r)
joined_cut (r ∷ rows) (suc i) n = ap (λ (s : List Boxed). r ++ s) (joined_cut rows i n)

pub length_cut : (rows : Rows) (i n : ℕ) → i < length rows → length (cut rows i n) ≡ suc (length rows)
length_cut [] i n lt = absurd (omega arith)
length_cut (r ∷ rows) zero n lt = refl
length_cut (r ∷ rows) (suc i) n lt = ap suc (length_cut rows i n (omega arith))

length_front : (r : List Boxed) (n : ℕ) → n < length r → length (take n r) ≡ n
length_front r n lt = length-take-le n r (omega arith)

length_rest : (r : List Boxed) (n : ℕ) → length (drop n r) ≡ length r - n
length_rest r n = length-drop n r

pub full_cut : (rows : Rows) (i n : ℕ) → AllByRecursion HasEntry rows → 0 < n → n < length (get_or rows i []) → AllByRecursion HasEntry (cut rows i n)
full_cut [] i n f low high = tt
full_cut (r ∷ rows) zero n f low high = (omega (arith, length_front r n high), (omega (arith, length_rest r n), f.1))
full_cut (r ∷ rows) (suc i) n f low high = (f.0, full_cut rows i n f.1 low high)

front_of_cut : (rows : Rows) (i n : ℕ) → i < length rows → get_or (cut rows i n) i [] ≡ take n (get_or rows i [])
front_of_cut [] i n lt = absurd (omega arith)
front_of_cut (r ∷ rows) zero n lt = refl
front_of_cut (r ∷ rows) (suc i) n lt = front_of_cut rows i n (omega arith)

rest_of_cut : (rows : Rows) (i n : ℕ) → i < length rows → get_or (cut rows i n) (suc i) [] ≡ drop n (get_or rows i [])
rest_of_cut [] i n lt = absurd (omega arith)
rest_of_cut (r ∷ rows) zero n lt = refl
rest_of_cut (r ∷ rows) (suc i) n lt = rest_of_cut rows i n (omega arith)

pub low_index : (rows : Rows) (i k n : ℕ) → i < length rows → n < length (get_or rows i []) → k ≤ n → k ≤ length (get_or (cut rows i n) i [])
low_index rows i k n lt within le =
    omega (arith, ap (λ (r : List Boxed). length r) (front_of_cut rows i n lt), length_front (get_or rows i []) n within)

pub high_index : (rows : Rows) (i k n : ℕ) → i < length rows → k ≤ length (get_or rows i []) → k - n ≤ length (get_or (cut rows i n) (suc i) [])
high_index rows i k n lt le =
    omega (arith, ap (λ (r : List Boxed). length r) (rest_of_cut rows i n lt), length_rest (get_or rows i []) n)

pub before_low : (rows : Rows) (i k n : ℕ) → k ≤ n → before (cut rows i n) i k ≡ before rows i k
before_low [] i k n le = refl
before_low (r ∷ rows) zero k n le = take-take k n r le
before_low (r ∷ rows) (suc i) k n le = ap (λ (s : List Boxed). r ++ s) (before_low rows i k n le)

abbrev nothing : List Boxed
nothing = []

take_nothing : (j : ℕ) → take j nothing ≡ nothing
take_nothing zero = refl
take_nothing (suc j) = refl

take_both : (r : List Boxed) (k n : ℕ) → n ≤ k → take n r ++ take (k - n) (drop n r) ≡ take k r
take_both r k zero le = ap (λ (j : ℕ). take j r) (omega arith)
take_both [] zero (suc n) le = absurd (omega arith)
take_both [] (suc k) (suc n) le = take_nothing (suc k - suc n)
take_both (x ∷ r) zero (suc n) le = absurd (omega arith)
take_both (x ∷ r) (suc k) (suc n) le =
    let same : suc k - suc n ≡ k - n = omega arith in
    ap (λ (j : ℕ). x ∷ (take n r ++ take j (drop n r))) same ∙ ap (λ (s : List Boxed). x ∷ s) (take_both r k n (omega arith))

pub before_high : (rows : Rows) (i k n : ℕ) → n ≤ k → before (cut rows i n) (suc i) (k - n) ≡ before rows i k
before_high [] i k n le = refl
before_high (r ∷ rows) zero k n le = take_both r k n le
before_high (r ∷ rows) (suc i) k n le = ap (λ (s : List Boxed). r ++ s) (before_high rows i k n le)

drop_both : (r : List Boxed) (k n : ℕ) → k ≤ n → drop k (take n r) ++ drop n r ≡ drop k r
drop_both r zero n le = take-append-drop n r
drop_both r (suc k) zero le = absurd (omega arith)
drop_both [] (suc k) (suc n) le = refl
drop_both (x ∷ r) (suc k) (suc n) le = drop_both r k n (omega arith)

pub after_low : (rows : Rows) (i k n : ℕ) → k ≤ n → after (cut rows i n) i k ≡ after rows i k
after_low [] i k n le = refl
after_low (r ∷ rows) zero k n le =
    sym (append_assoc (drop k (take n r)) (drop n r) (joined rows)) ∙ ap (λ (s : List Boxed). s ++ joined rows) (drop_both r k n le)
after_low (r ∷ rows) (suc i) k n le = after_low rows i k n le

pub after_high : (rows : Rows) (i k n : ℕ) → n ≤ k → after (cut rows i n) (suc i) (k - n) ≡ after rows i k
after_high [] i k n le = refl
after_high (r ∷ rows) zero k n le =
    ap (λ (s : List Boxed). s ++ joined rows) (drop-drop (k - n) n r ∙ ap (λ (j : ℕ). drop j r) (together n k le))
  where
    together : (n k : ℕ) → n ≤ k → n + (k - n) ≡ k
    together n k le = omega arith
after_high (r ∷ rows) (suc i) k n le = after_high rows i k n le

pub plus_one : (n : ℕ) → n + 1 ≡ suc n
plus_one n = omega arith

le_from : (a b : ℕ) → nat_le a b ≡ true → a ≤ b
le_from a b e = grind (arith, nat_tests)

gt_from : (a b : ℕ) → nat_le a b ≡ false → b ≤ a
gt_from a b e = grind (arith, nat_tests)

-- a gap once its row is cut in two
pub record Moved (rows : Rows) (at to : Place) : Type 0 where
  pub row : to.row < length (cut rows at.row 128)
  pub index : to.index ≤ length (get_or (cut rows at.row 128) to.row [])
  pub before-is : before (cut rows at.row 128) to.row to.index ≡ before rows at.row at.index
  pub after-is : after (cut rows at.row 128) to.row to.index ≡ after rows at.row at.index

pub moved_gap : (rows : Rows) (at : Place) → at.row < length rows → 128 < length (get_or rows at.row []) → at.index ≤ length (get_or rows at.row []) → Moved rows at (moved at)
moved_gap rows at lt half within =
    elim (nat_le at.index 128) as (λ b. nat_le at.index 128 ≡ b → Moved rows at (if b then at else record { row = at.row + 1; index = at.index - 128 })) [
      | true ↦ λ e.
          let le : at.index ≤ 128 = le_from at.index 128 e in
          record {
            row = omega (arith, length_cut rows at.row 128 lt);
            index = low_index rows at.row at.index 128 lt half le;
            before-is = before_low rows at.row at.index 128 le;
            after-is = after_low rows at.row at.index 128 le;
          }
      | false ↦ λ e.
          let le : 128 ≤ at.index = gt_from at.index 128 e in
          subst (λ (j : ℕ). Moved rows at (record { row = j; index = at.index - 128 })) (sym (plus_one at.row)) (record {
            row = omega (arith, length_cut rows at.row 128 lt);
            index = high_index rows at.row at.index 128 lt within;
            before-is = before_high rows at.row at.index 128 le;
            after-is = after_high rows at.row at.index 128 le;
          })
    ] refl

pub around_moved : (rows others : Rows) (at to : Place) (p : Pair) → others ≡ cut rows at.row 128 → to ≡ moved at → Moved rows at (moved at)
    → pairs_of (before others to.row to.index) ++ p ∷ pairs_of (after others to.row to.index) ≡ pairs_of (before rows at.row at.index) ++ p ∷ pairs_of (after rows at.row at.index)
around_moved rows others at to p is where_to m =
    ap (λ (rs : Rows). pairs_of (before rs to.row to.index) ++ p ∷ pairs_of (after rs to.row to.index)) is
    ∙ ap (λ (t : Place). pairs_of (before (cut rows at.row 128) t.row t.index) ++ p ∷ pairs_of (after (cut rows at.row 128) t.row t.index)) where_to
    ∙ ap₂ (λ (bs ts : List Boxed). pairs_of bs ++ p ∷ pairs_of ts) m.before-is m.after-is

-- ---- an entry that changes

some_item : (xs : List Boxed) (x : Boxed) (ys : List Boxed) → 0 < length (xs ++ x ∷ ys)
some_item [] x ys = omega arith
some_item (y ∷ xs) x ys = omega arith

pub inserted_has : (r row : List Boxed) (k : ℕ) (x : Boxed) → row ≡ insert r k x → HasEntry row
inserted_has r row k x e = subst HasEntry (sym e) (some_item (take k r) x (drop k r))

pub inserted_pairs : (vs : List Row) (i k : ℕ) (v w : Row) (x : Boxed) → i < length vs → v ≡ get_or vs i v → w.items ≡ insert v.items k x
    → pairs_of (joined (rows_of (set vs i w))) ≡ pairs_of (before (rows_of vs) i k) ++ pair_of x ∷ pairs_of (after (rows_of vs) i k)
inserted_pairs vs i k v w x lt e is =
    let row : List Boxed = get_or (rows_of vs) i [] in
    ap (λ (rs : Rows). pairs_of (joined rs)) (rows_set vs i w)
    ∙ changed (rows_of vs) i k k w.items (pair_of x ∷ []) (omega (arith, length_rows vs))
    (ap pairs_of (is ∙ ap (λ (r : List Boxed). insert r k x) (sym (row_is vs i v lt e))) ∙ pairs_append (take k row) (x ∷ drop k row))

pub full_row : (vs : List Row) (i : ℕ) (w : Row) → AllByRecursion HasEntry (rows_of vs) → HasEntry w.items → AllByRecursion HasEntry (rows_of (set vs i w))
full_row vs i w f h = subst (AllByRecursion HasEntry) (sym (rows_set vs i w)) (full_set (rows_of vs) i w.items f h)

pub item_pairs : (vs : List Row) (i k : ℕ) (v w : Row) (y : Boxed) (p : Pair) → i < length (rows_of vs) → k < length (get_or (rows_of vs) i []) → v ≡ get_or vs i v
    → w.items ≡ set v.items k y → pair_of y ≡ p
    → pairs_of (joined (rows_of (set vs i w))) ≡ pairs_of (before (rows_of vs) i k) ++ p ∷ pairs_of (after (rows_of vs) i (suc k))
item_pairs vs i k v w y p lt within e is same =
    let row : List Boxed = get_or (rows_of vs) i [] in
    ap (λ (rs : Rows). pairs_of (joined rs)) (rows_set vs i w)
    ∙ changed (rows_of vs) i k (suc k) w.items (p ∷ []) lt
    (ap pairs_of (is ∙ ap (λ (r : List Boxed). set r k y) (sym (row_is vs i v (omega (arith, length_rows vs)) e)) ∙ set_split row k y within)
    ∙ pairs_append (take k row) (y ∷ drop (suc k) row)
    ∙ ap (λ (q : Pair). pairs_of (take k row) ++ q ∷ pairs_of (drop (suc k) row)) same)

pub item_full : (vs : List Row) (i k : ℕ) (v w : Row) (y : Boxed) → i < length (rows_of vs) → k < length (get_or (rows_of vs) i []) → v ≡ get_or vs i v
    → w.items ≡ set v.items k y → AllByRecursion HasEntry (rows_of vs) → AllByRecursion HasEntry (rows_of (set vs i w))
item_full vs i k v w y lt within e is f =
    full_row vs i w f
    (omega (arith, within, ap (λ (r : List Boxed). length r) (row_is vs i v (omega (arith, length_rows vs)) e), ap (λ (r : List Boxed). length r) is, length-set v.items k y))

-- the entry that was read
pub item_is : (vs : List Row) (i k : ℕ) (v : Row) (x : Boxed) (d : Boxed) → i < length (rows_of vs) → k < length (get_or (rows_of vs) i []) → v ≡ get_or vs i v
    → x ≡ get_or v.items k x → x ≡ get_or (get_or (rows_of vs) i []) k d
item_is vs i k v x d lt within e is =
    let row : get_or (rows_of vs) i [] ≡ v.items = row_is vs i v (omega (arith, length_rows vs)) e in
    get_or_read (get_or (rows_of vs) i []) k x within (is ∙ ap (λ (r : List Boxed). get_or r k x) (sym row)) d

pub on_err : {A E : Type 0} (r : Result A E) (P : Type 0) → P → OnErr r P
on_err (Ok x) P p = tt
on_err (Err e) P p = p

pub on_err_more : {A E : Type 0} (r : Result A E) (P Q : Type 0) → (P → Q) → OnErr r P → OnErr r Q
on_err_more (Ok x) P Q f p = tt
on_err_more (Err e) P Q f p = f p

-- an entry put behind the last of the last row
pub around_end : (rows : Rows) (i k : ℕ) (p : Pair) → length rows ≡ suc i → k ≡ length (get_or rows i []) → pairs_of (before rows i k) ++ p ∷ pairs_of (after rows i k) ≡ pairs_of (joined rows) ++ p ∷ []
around_end rows i k p e is =
    let none : after rows i k ≡ [] = ap (after rows i) is ∙ nothing_after rows i e in
    let all : before rows i k ≡ joined rows = sym (joined_split rows i k ∙ ap (λ (s : List Boxed). before rows i k ++ s) none ∙ append-nil (before rows i k)) in
    ap₂ (λ (bs ts : List Boxed). pairs_of bs ++ p ∷ pairs_of ts) all none
