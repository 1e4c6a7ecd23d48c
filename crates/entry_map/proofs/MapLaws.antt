-- The changes of rows as changes of a ledger's map.
use Rattle.std.specs.Prelude.{cond, not, slice_get}
use Rattle.std.specs.List.{AllByRecursion, All, list_all}
use Rattle.std.specs.declared.cmp.Ordering.{Ordering}
use Rattle.std.specs.declared.cmp.Ordering.TheVariants.{Less, Equal, Greater}
use Rattle.std.specs.Ordering.{is_lt, is_eq, eq_by_cmp, ordering_reverse}
use Rattle.std.specs.Cmp.{alike_right, eq_by_cmp_equiv}
use Rattle.std.specs.Cmp.Lexicographic.{nat_list_cmp_total}
use Rattle.std.specs.FinMap.{empty, len-empty, is_sorted, find, put, get, insert, remove, entries, len, from_sorted, entries-from_sorted, get-from_sorted, len-entries, entries-insert, same_entries_map, same_map, get-remove}
use Rattle.std.specs.FinMap.Entries.{is_sorted-put, is_sorted-where_key, where_key, find-where_key}
use Rattle.std.proofs.Common.{◌≡◌, T, ℕ, zero, suc, get_or, ◌+◌, ◌-◌, ◌<◌, ◌^◌, Bool, true, false, ◌&&◌, List, [], ◌∷◌, ◌++◌, length, Option, Some, None, max, refl, sym, ap, ap₂, subst, ◌∙◌, arith}
use Rattle.std.proofs.lemmas.List.{length-append, length-map}
use Rattle.ledger_types.specs.Key.{key_format}
use Rattle.ledger_types.specs.Entry.{key_of}
use Rattle.ledger_types.specs.KeyOrder.{ranked_key}
use Rattle.ledger_types.specs.declared.key.LedgerKey.{LedgerKey}
use Rattle.ledger_types.proofs.Lemmas.{key_of_fits, key_ranked}
use Rattle.ledger_spec.specs.declared.Kept.{Kept}
use Rattle.ledger_spec.specs.LedgerMap.{LedgerMap, IsKeptAt, IsLedgerMap, key_bytes}
use Rattle.ledger_spec.specs.LedgerFile.{is_above}
use Rattle.ledger_spec.specs.Changes.{raise, raised}
use Rattle.entry_map.specs.declared.rows.Place.{Place}
use Rattle.entry_map.specs.Entries.{Boxed, kept_of, lasting, own_key, own_bytes, pair_of, pairs_of, map_of, last_key, is_last, IsAt, AreSorted, AreEntries}
use Rattle.entry_map.specs.Rows.{rows_of, joined, before, after, ends_below, HasEntry, AreRows, AreBelow, AreAbove, IsFoundAt, IsGapAt}
use Rattle.entry_map.proofs.Sorted.{Pair, order, antisymmetric, pairs_append, all_append, all_left, all_right, low_side, high_side, through_equal, below_equal, passes, find_gap, find_entry, put_gap, put_entry, where_gap, where_entry}
use Rattle.entry_map.proofs.Places.{Row, Rows, joined_split, place_split}

t_from : (b : Bool) → b ≡ true → T b
t_from true e = tt
t_from false e = cc

true_from : (b : Bool) → T b → b ≡ true
true_from true h = refl
true_from false h = absurd h

-- ---- the map of sorted entries

abbrev map_from : List Pair → LedgerMap
map_from ps = from_sorted ps

pub entries_of : (ps : List Pair) → AreSorted ps → entries (from_sorted {R = order} ps) ≡ ps
entries_of ps s = entries-from_sorted order ps (t_from (is_sorted order ps) s)

pub found_in : (ps : List Pair) (key : List ℕ) → AreSorted ps → get (from_sorted {R = order} ps) key ≡ find order key ps
found_in ps key s = get-from_sorted order ps key (t_from (is_sorted order ps) s)

pub len_of : (ps : List Pair) → AreSorted ps → len (from_sorted {R = order} ps) ≡ length ps
len_of ps s = len-entries (map_from ps) ∙ ap length (entries_of ps s)

pub length_pairs : (es : List Boxed) → length (pairs_of es) ≡ length es
length_pairs es = length-map es pair_of

all_kept : (ps : List Pair) → AllByRecursion IsAt ps → All IsAt ps
all_kept [] h k d lt = absurd (omega arith)
all_kept (e ∷ ps) h zero d lt = h.0
all_kept (e ∷ ps) h (suc k) d lt = all_kept ps h.1 k d (omega arith)

pub ledger_map : (ps : List Pair) → AreEntries ps → IsLedgerMap (map_from ps)
ledger_map ps s = record {
  each = rw (entries_of ps s.sorted) (all_kept ps s.each);
  few = rw (len_of ps s.sorted) s.few;
}

no_entries_in : (es : List Pair) → length es ≡ 0 → es ≡ []
no_entries_in [] e = refl
no_entries_in (x ∷ es) e = absurd (omega arith)

pub no_entries : map_of [] ≡ empty
no_entries = same_entries_map (map_of []) empty (entries_of [] refl ∙ sym (no_entries_in (entries empty) (sym (len-entries empty) ∙ len-empty order Kept)))

-- ---- keys

pub own_fits : (h : Boxed) (bytes : List ℕ) → IsKeptAt bytes h.value.kept → own_key h ≡ bytes
own_fits h bytes is = key_ranked (key_of h.value.kept.entry) (key_of_fits h.value.kept.entry is.fits) ∙ sym is.keyed

pub at_own : (h : Boxed) (bytes : List ℕ) → IsKeptAt bytes h.value.kept → IsAt (pair_of h)
at_own h bytes is = subst (λ (b : List ℕ). IsKeptAt b h.value.kept) (sym (own_fits h bytes is)) is

-- ---- puts

put_sorted : (ps : List Pair) (k : List ℕ) (v : Kept) → AreSorted ps → is_sorted order (put order k v ps) ≡ true
put_sorted ps k v s = true_from _ (is_sorted-put order nat_list_cmp_total k v ps (t_from (is_sorted order ps) s))

-- pairs that a put gives are the map that an insert gives
put_map : (ps qs : List Pair) (k : List ℕ) (v : Kept) → AreSorted ps → qs ≡ put order k v ps → insert (map_from ps) k v ≡ map_from qs
put_map ps qs k v s e =
    let after : AreSorted qs = ap (is_sorted order) e ∙ put_sorted ps k v s in
    same_entries_map _ _ (entries-insert nat_list_cmp_total (map_from ps) k v ∙ ap (put order k v) (entries_of ps s) ∙ sym e ∙ sym (entries_of qs after))

-- what rows are once a pair stands between others
pub record Changed (ps qs : List Pair) (key : LedgerKey) (v : Kept) : Type 0 where
  pub map : insert (map_from ps) (key_bytes key) v ≡ map_from qs
  pub sorted : AreSorted qs
  pub each : AllByRecursion IsAt qs

split_sorted : (rows : Rows) (es : List Boxed) → joined rows ≡ es → AreSorted (pairs_of (joined rows)) → AreSorted (pairs_of es)
split_sorted rows es e s = subst (λ (xs : List Boxed). AreSorted (pairs_of xs)) e s

split_each : (rows : Rows) (es : List Boxed) → joined rows ≡ es → AllByRecursion IsAt (pairs_of (joined rows)) → AllByRecursion IsAt (pairs_of es)
split_each rows es e s = subst (λ (xs : List Boxed). AllByRecursion IsAt (pairs_of xs)) e s

each_around : (bs ts : List Boxed) (p : Pair) → AllByRecursion IsAt (pairs_of bs) → AllByRecursion IsAt (pairs_of ts) → IsAt p → AllByRecursion IsAt (pairs_of bs ++ p ∷ pairs_of ts)
each_around bs ts p b a h = all_append IsAt (pairs_of bs) (p ∷ pairs_of ts) b (h, a)

each_left : (bs ts : List Boxed) → AllByRecursion IsAt (pairs_of (bs ++ ts)) → AllByRecursion IsAt (pairs_of bs)
each_left bs ts h = all_left IsAt (pairs_of bs) (pairs_of ts) (subst (AllByRecursion IsAt) (pairs_append bs ts) h)

each_right : (bs ts : List Boxed) → AllByRecursion IsAt (pairs_of (bs ++ ts)) → AllByRecursion IsAt (pairs_of ts)
each_right bs ts h = all_right IsAt (pairs_of bs) (pairs_of ts) (subst (AllByRecursion IsAt) (pairs_append bs ts) h)

changed_by : (ps qs : List Pair) (key : LedgerKey) (v : Kept) → AreSorted ps → key_format.fits key → qs ≡ put order (ranked_key key) v ps → AllByRecursion IsAt qs → Changed ps qs key v
changed_by ps qs key v s fits is each = record {
  map = ap (λ (b : List ℕ). insert (map_from ps) b v) (sym (key_ranked key fits)) ∙ put_map ps qs (ranked_key key) v s is;
  sorted = ap (is_sorted order) is ∙ put_sorted ps (ranked_key key) v s;
  each = each;
}

-- a new entry in its gap
pub added : (rows : Rows) (at : Place) (key : LedgerKey) (qs : List Pair) (h : Boxed) → AreEntries (pairs_of (joined rows)) → IsGapAt (ranked_key key) rows at → key_format.fits key
    → IsKeptAt (key_bytes key) h.value.kept → qs ≡ pairs_of (before rows at.row at.index) ++ pair_of h ∷ pairs_of (after rows at.row at.index)
    → Changed (pairs_of (joined rows)) qs key h.value.kept
added rows at key qs h s gap fits kept e =
    let bs = before rows at.row at.index in
    let ts = after rows at.row at.index in
    let split : joined rows ≡ bs ++ ts = joined_split rows at.row at.index in
    let each : AllByRecursion IsAt (pairs_of (bs ++ ts)) = split_each rows (bs ++ ts) split s.each in
    let own : own_key h ≡ ranked_key key = own_fits h (key_bytes key) kept ∙ sym (key_ranked key fits) in
    let is : qs ≡ put order (ranked_key key) h.value.kept (pairs_of (joined rows)) =
    e ∙ ap (λ (k : List ℕ). pairs_of bs ++ (k, h.value.kept) ∷ pairs_of ts) own ∙ sym (put_gap (ranked_key key) h.value.kept bs ts gap.below gap.above)
    ∙ ap (λ (xs : List Boxed). put order (ranked_key key) h.value.kept (pairs_of xs)) (sym split) in
    changed_by (pairs_of (joined rows)) qs key h.value.kept s.sorted fits is
    (subst (AllByRecursion IsAt) (sym e) (each_around bs ts (pair_of h) (each_left bs ts each) (each_right bs ts each) (at_own h (key_bytes key) kept)))

-- another entry in the place of one with the same key
pub replaced : (rows : Rows) (at : Place) (key : LedgerKey) (qs : List Pair) (d : Boxed) (k : List ℕ) (v : Kept) → AreEntries (pairs_of (joined rows)) → IsFoundAt (ranked_key key) rows at → key_format.fits key
    → k ≡ ranked_key key → IsAt (k, v) → qs ≡ pairs_of (before rows at.row at.index) ++ (k, v) ∷ pairs_of (after rows at.row (suc at.index))
    → Changed (pairs_of (joined rows)) qs key v
replaced rows at key qs d k v s found fits own kept e =
    let x = get_or (get_or rows at.row []) at.index d in
    let bs = before rows at.row at.index in
    let ts = after rows at.row (suc at.index) in
    let split : joined rows ≡ bs ++ x ∷ ts = place_split rows at.row at.index d found.place.row found.place.index in
    let each : AllByRecursion IsAt (pairs_of (bs ++ x ∷ ts)) = split_each rows (bs ++ x ∷ ts) split s.each in
    let same : order (own_key x) (ranked_key key) ≡ Equal = found.same d in
    let below : AreBelow (ranked_key key) bs = below_equal (ranked_key key) bs x same (low_side bs x ts (split_sorted rows (bs ++ x ∷ ts) split s.sorted)) in
    let key_is : k ≡ own_key x = own ∙ sym (antisymmetric (own_key x) (ranked_key key) same) in
    let is : qs ≡ put order (ranked_key key) v (pairs_of (joined rows)) =
    e ∙ ap (λ (b : List ℕ). pairs_of bs ++ (b, v) ∷ pairs_of ts) key_is ∙ sym (put_entry (ranked_key key) v bs x ts below same)
    ∙ ap (λ (xs : List Boxed). put order (ranked_key key) v (pairs_of xs)) (sym split) in
    changed_by (pairs_of (joined rows)) qs key v s.sorted fits is
    (subst (AllByRecursion IsAt) (sym e) (each_around bs ts (k, v) (each_left bs (x ∷ ts) each) (each_right bs (x ∷ ts) each).1 kept))

-- ---- what is found

pub found_entry : (rows : Rows) (at : Place) (key : LedgerKey) (d : Boxed) → AreEntries (pairs_of (joined rows)) → IsFoundAt (ranked_key key) rows at → key_format.fits key
    → Some (kept_of (get_or (get_or rows at.row []) at.index d)) ≡ get (map_of (joined rows)) (key_bytes key)
found_entry rows at key d s found fits =
    let x = get_or (get_or rows at.row []) at.index d in
    let bs = before rows at.row at.index in
    let ts = after rows at.row (suc at.index) in
    let split : joined rows ≡ bs ++ x ∷ ts = place_split rows at.row at.index d found.place.row found.place.index in
    let same : order (own_key x) (ranked_key key) ≡ Equal = found.same d in
    let below : AreBelow (ranked_key key) bs = below_equal (ranked_key key) bs x same (low_side bs x ts (split_sorted rows (bs ++ x ∷ ts) split s.sorted)) in
    sym (find_entry (ranked_key key) bs x ts below same)
    ∙ ap (λ (xs : List Boxed). find order (ranked_key key) (pairs_of xs)) (sym split)
    ∙ sym (found_in (pairs_of (joined rows)) (ranked_key key) s.sorted)
    ∙ ap (get (map_of (joined rows))) (key_ranked key fits)

pub found_none : (rows : Rows) (at : Place) (key : LedgerKey) → AreEntries (pairs_of (joined rows)) → IsGapAt (ranked_key key) rows at → key_format.fits key
    → None ≡ get (map_of (joined rows)) (key_bytes key)
found_none rows at key s gap fits =
    sym (find_gap (ranked_key key) (before rows at.row at.index) (after rows at.row at.index) gap.below gap.above)
    ∙ ap (λ (xs : List Boxed). find order (ranked_key key) (pairs_of xs)) (sym (joined_split rows at.row at.index))
    ∙ sym (found_in (pairs_of (joined rows)) (ranked_key key) s.sorted)
    ∙ ap (get (map_of (joined rows))) (key_ranked key fits)

-- the entry that is found is kept at the key
pub kept_there : (rows : Rows) (at : Place) (key : LedgerKey) (d : Boxed) → AreEntries (pairs_of (joined rows)) → IsFoundAt (ranked_key key) rows at → key_format.fits key
    → IsKeptAt (key_bytes key) (kept_of (get_or (get_or rows at.row []) at.index d))
kept_there rows at key d s found fits =
    let x = get_or (get_or rows at.row []) at.index d in
    let bs = before rows at.row at.index in
    let ts = after rows at.row (suc at.index) in
    let split : joined rows ≡ bs ++ x ∷ ts = place_split rows at.row at.index d found.place.row found.place.index in
    let is : IsKeptAt (own_key x) (kept_of x) = (each_right bs (x ∷ ts) (split_each rows (bs ++ x ∷ ts) split s.each)).0 in
    subst (λ (b : List ℕ). IsKeptAt b (kept_of x)) (antisymmetric (own_key x) (ranked_key key) (found.same d) ∙ key_ranked key fits) is

-- ---- an entry taken out

turned : {A : Type 0} (b : Bool) (x y : A) → cond (not b) x y ≡ cond b y x
turned true x y = refl
turned false x y = refl

alike : (k q x : List ℕ) → order q x ≡ Equal → passes k x ≡ passes k q
alike k q x t = ap (λ (o : Ordering). not (is_eq o)) (sym (alike_right nat_list_cmp_total q x k t))

reversed : (k q : List ℕ) → eq_by_cmp order k q ≡ eq_by_cmp order q k
reversed k q = (eq_by_cmp_equiv nat_list_cmp_total).symm k q

where_sorted : (ps qs : List Pair) (q : List ℕ) → AreSorted ps → qs ≡ where_key order (passes q) ps → AreSorted qs
where_sorted ps qs q s is = ap (is_sorted order) is ∙ true_from _ (is_sorted-where_key order (passes q) ps (t_from (is_sorted order ps) s))

removed_found : (ps qs : List Pair) (k : List ℕ) → AreSorted ps → qs ≡ where_key order (passes k) ps → (q : List ℕ) → get (remove (from_sorted {R = order} ps) k) q ≡ get (from_sorted {R = order} qs) q
removed_found ps qs k s is q =
    sym (found_in qs q (where_sorted ps qs k s is)
    ∙ ap (find order q) is
    ∙ find-where_key order (passes k) q (alike k q) ps
    ∙ turned (eq_by_cmp order k q) (find order q ps) None
    ∙ ap₂ (λ (b : Bool) (o : Option Kept). cond b None o) (reversed k q) (sym (found_in ps q s))
    ∙ sym (get-remove nat_list_cmp_total (map_from ps) k q))

removed_pairs : (ps qs : List Pair) (key : LedgerKey) → AreSorted ps → key_format.fits key → qs ≡ where_key order (passes (ranked_key key)) ps → remove (map_from ps) (key_bytes key) ≡ map_from qs
removed_pairs ps qs key s fits is =
    ap (remove (map_from ps)) (sym (key_ranked key fits)) ∙ same_map nat_list_cmp_total antisymmetric _ _ (removed_found ps qs (ranked_key key) s is)

-- what rows are without an entry
pub record Removed (ps qs : List Pair) (key : LedgerKey) : Type 0 where
  pub map : remove (map_from ps) (key_bytes key) ≡ map_from qs
  pub sorted : AreSorted qs
  pub each : AllByRecursion IsAt qs

pub taken : (rows : Rows) (at : Place) (key : LedgerKey) (qs : List Pair) (d : Boxed) → AreEntries (pairs_of (joined rows)) → IsFoundAt (ranked_key key) rows at → key_format.fits key
    → qs ≡ pairs_of (before rows at.row at.index) ++ pairs_of (after rows at.row (suc at.index)) → Removed (pairs_of (joined rows)) qs key
taken rows at key qs d s found fits e =
    let x = get_or (get_or rows at.row []) at.index d in
    let bs = before rows at.row at.index in
    let ts = after rows at.row (suc at.index) in
    let q = ranked_key key in
    let split : joined rows ≡ bs ++ x ∷ ts = place_split rows at.row at.index d found.place.row found.place.index in
    let sorted : AreSorted (pairs_of (bs ++ x ∷ ts)) = split_sorted rows (bs ++ x ∷ ts) split s.sorted in
    let each : AllByRecursion IsAt (pairs_of (bs ++ x ∷ ts)) = split_each rows (bs ++ x ∷ ts) split s.each in
    let same : order (own_key x) q ≡ Equal = found.same d in
    let below : AreBelow q bs = below_equal q bs x same (low_side bs x ts sorted) in
    let above : AreAbove q ts = through_equal q ts x same (high_side bs x ts sorted) in
    let is : qs ≡ where_key order (passes q) (pairs_of (joined rows)) =
    e ∙ sym (where_entry q bs x ts below same above) ∙ ap (λ (xs : List Boxed). where_key order (passes q) (pairs_of xs)) (sym split) in
    record {
      map = removed_pairs (pairs_of (joined rows)) qs key s.sorted fits is;
      sorted = where_sorted (pairs_of (joined rows)) qs q s.sorted is;
      each = subst (AllByRecursion IsAt) (sym e) (all_append IsAt (pairs_of bs) (pairs_of ts) (each_left bs (x ∷ ts) each) (each_right bs (x ∷ ts) each).1);
    }

pub taken_none : (rows : Rows) (at : Place) (key : LedgerKey) → AreEntries (pairs_of (joined rows)) → IsGapAt (ranked_key key) rows at → key_format.fits key
    → map_of (joined rows) ≡ remove (map_of (joined rows)) (key_bytes key)
taken_none rows at key s gap fits =
    let bs = before rows at.row at.index in
    let ts = after rows at.row at.index in
    let split : joined rows ≡ bs ++ ts = joined_split rows at.row at.index in
    sym (removed_pairs (pairs_of (joined rows)) (pairs_of (joined rows)) key s.sorted fits
    (ap pairs_of split ∙ pairs_append bs ts ∙ sym (where_gap (ranked_key key) bs ts gap.below gap.above)
    ∙ ap (λ (xs : List Boxed). where_key order (passes (ranked_key key)) (pairs_of xs)) (sym split)))

-- ---- counts

pub one_more : (rows : Rows) (at : Place) (p : Pair) (qs : List Pair) → qs ≡ pairs_of (before rows at.row at.index) ++ p ∷ pairs_of (after rows at.row at.index)
    → length qs ≡ suc (length (joined rows))
one_more rows at p qs e =
    let bs = before rows at.row at.index in
    let ts = after rows at.row at.index in
    omega (arith, ap length e, length-append (pairs_of bs) (p ∷ pairs_of ts), length_pairs bs, length_pairs ts, length-append bs ts, ap length (joined_split rows at.row at.index))

pub as_many : (rows : Rows) (at : Place) (d : Boxed) (p : Pair) (qs : List Pair) → at.row < length rows → at.index < length (get_or rows at.row [])
    → qs ≡ pairs_of (before rows at.row at.index) ++ p ∷ pairs_of (after rows at.row (suc at.index)) → length qs ≡ length (joined rows)
as_many rows at d p qs row index e =
    let bs = before rows at.row at.index in
    let ts = after rows at.row (suc at.index) in
    let x = get_or (get_or rows at.row []) at.index d in
    omega (arith, ap length e, length-append (pairs_of bs) (p ∷ pairs_of ts), length_pairs bs, length_pairs ts, length-append bs (x ∷ ts), ap length (place_split rows at.row at.index d row index))

pub one_less : (rows : Rows) (at : Place) (d : Boxed) (qs : List Pair) → at.row < length rows → at.index < length (get_or rows at.row [])
    → qs ≡ pairs_of (before rows at.row at.index) ++ pairs_of (after rows at.row (suc at.index)) → suc (length qs) ≡ length (joined rows)
one_less rows at d qs row index e =
    let bs = before rows at.row at.index in
    let ts = after rows at.row (suc at.index) in
    let x = get_or (get_or rows at.row []) at.index d in
    omega (arith, ap length e, length-append (pairs_of bs) (pairs_of ts), length_pairs bs, length_pairs ts, length-append bs (x ∷ ts), ap length (place_split rows at.row at.index d row index))

-- the rows after a change
pub rows_after : (rows : Rows) (count : ℕ) → AreSorted (pairs_of (joined rows)) → AllByRecursion IsAt (pairs_of (joined rows)) → AllByRecursion HasEntry rows
    → count ≡ length (joined rows) → count < 2 ^ 32 → AreRows rows count
rows_after rows count sorted each full counted few = record {
  entries = record { sorted = sorted; each = each; few = omega (arith, length_pairs (joined rows)) };
  full = full;
  counted = counted;
}

-- ---- the last key

less_from : (o : Ordering) → is_lt o ≡ true → o ≡ Less
less_from Less e = refl
less_from Equal e = cc
less_from Greater e = cc

first_of_two : (a b : Bool) → (a && b) ≡ true → a ≡ true
first_of_two true b e = refl
first_of_two false b e = e

second_of_two : (a b : Bool) → (a && b) ≡ true → b ≡ true
second_of_two true b e = e
second_of_two false b e = cc

-- an entry behind all others
put_last : (k : List ℕ) (v : Kept) (es : List Pair) → list_all (λ e. is_lt (order e.0 k)) es ≡ true → put order k v es ≡ es ++ (k, v) ∷ []
put_last k v [] h = refl
put_last k v (e ∷ es) h =
    let below : order e.0 k ≡ Less = less_from (order e.0 k) (first_of_two (is_lt (order e.0 k)) (list_all (λ e. is_lt (order e.0 k)) es) h) in
    let above : order k e.0 ≡ Greater = nat_list_cmp_total.antisymm k e.0 ∙ ap ordering_reverse below in
    rw above (ap (λ (r : List Pair). e ∷ r) (put_last k v es (second_of_two (is_lt (order e.0 k)) (list_all (λ e. is_lt (order e.0 k)) es) h)))

pub record Pushed (ps qs : List Pair) (bytes : List ℕ) (v : Kept) : Type 0 where
  pub entries-are : entries (from_sorted {R = order} qs) ≡ entries (from_sorted {R = order} ps) ++ (bytes, v) ∷ []
  pub sorted : AreSorted qs
  pub each : AllByRecursion IsAt qs

pub pushed : (ps qs : List Pair) (h : Boxed) → AreEntries ps → is_last (map_from ps) (own_bytes h) ≡ true → IsKeptAt (own_bytes h) h.value.kept → qs ≡ ps ++ pair_of h ∷ []
    → Pushed ps qs (own_bytes h) h.value.kept
pushed ps qs h s last kept e =
    let own : own_key h ≡ own_bytes h = own_fits h (own_bytes h) kept in
    let last_of : list_all (λ e. is_lt (order e.0 (own_bytes h))) ps ≡ true = ap (list_all (λ e. is_lt (order e.0 (own_bytes h)))) (sym (entries_of ps s.sorted)) ∙ last in
    let moved : ps ++ pair_of h ∷ [] ≡ ps ++ (own_bytes h, h.value.kept) ∷ [] = ap (λ (k : List ℕ). ps ++ (k, h.value.kept) ∷ []) own in
    let is : qs ≡ put order (own_bytes h) h.value.kept ps = e ∙ moved ∙ sym (put_last (own_bytes h) h.value.kept ps last_of) in
    let sorted : AreSorted qs = ap (is_sorted order) is ∙ put_sorted ps (own_bytes h) h.value.kept s.sorted in
    record {
      entries-are = entries_of qs sorted ∙ e ∙ moved ∙ ap (λ (xs : List Pair). xs ++ (own_bytes h, h.value.kept) ∷ []) (sym (entries_of ps s.sorted));
      sorted = sorted;
      each = subst (AllByRecursion IsAt) (sym e) (all_append IsAt ps (pair_of h ∷ []) s.each (at_own h (own_bytes h) kept, tt));
    }

-- whether the last key is below other bytes
above_last : (q : List ℕ) (es : List Boxed) → ends_below q es ≡ is_above (last_key (pairs_of es)) q
above_last q [] = refl
above_last q (x ∷ []) = refl
above_last q (x ∷ y ∷ es) = above_last q (y ∷ es)

ends_append : (q : List ℕ) (xs : List Boxed) (y : Boxed) (ys : List Boxed) → ends_below q (xs ++ y ∷ ys) ≡ ends_below q (y ∷ ys)
ends_append q [] y ys = refl
ends_append q (x ∷ []) y ys = refl
ends_append q (x ∷ z ∷ xs) y ys = ends_append q (z ∷ xs) y ys

ends_nil : (q : List ℕ) (r : List Boxed) → ends_below q r ≡ ends_below q (r ++ [])
ends_nil q [] = refl
ends_nil q (x ∷ []) = refl
ends_nil q (x ∷ y ∷ r) = ends_nil q (y ∷ r)

ends_behind : (q : List ℕ) (r s : List Boxed) (rest : List Boxed) → HasEntry s → ends_below q (s ++ rest) ≡ ends_below q (r ++ (s ++ rest))
ends_behind q r [] rest h = absurd (omega arith)
ends_behind q r (x ∷ s) rest h = sym (ends_append q r x (s ++ rest))

less_one : (n : ℕ) → suc (suc n) - 1 ≡ suc (suc n - 1)
less_one n = omega arith

-- of rows that have entries, the last one ends as they do
ends_last : (q : List ℕ) (vs : List Row) (v : Row) → slice_get vs (length vs - 1) ≡ Some v → AllByRecursion HasEntry (rows_of vs) → ends_below q v.items ≡ ends_below q (joined (rows_of vs))
ends_last q [] v e f = cc
ends_last q (u ∷ []) v e f = let same : v ≡ u = cc in ap (λ (x : Row). ends_below q x.items) same ∙ ends_nil q u.items
ends_last q (u ∷ w ∷ vs) v e f =
    ends_last q (w ∷ vs) v (ap (slice_get (u ∷ w ∷ vs)) (sym (less_one (length vs))) ∙ e) f.1
    ∙ ends_behind q u.items w.items (joined (rows_of vs)) f.1.0

pub last_row : (q : List ℕ) (vs : List Row) (v : Row) → slice_get vs (length vs - 1) ≡ Some v → AllByRecursion HasEntry (rows_of vs)
    → ends_below q v.items ≡ is_above (last_key (pairs_of (joined (rows_of vs)))) q
last_row q vs v e f = ends_last q vs v e f ∙ above_last q (joined (rows_of vs))

pub none_last : (vs : List Row) → slice_get vs (length vs - 1) ≡ None → vs ≡ []
none_last [] e = refl
none_last (u ∷ []) e = cc
none_last (u ∷ w ∷ vs) e =
    let none : w ∷ vs ≡ [] = none_last (w ∷ vs) (ap (slice_get (u ∷ w ∷ vs)) (sym (less_one (length vs))) ∙ e) in
    cc

-- ---- rows after a change of a map

pub any : (row : List Boxed) → 0 < length row → Boxed
any [] h = absurd (omega arith)
any (x ∷ row) h = x

-- some entry, at a place that has one
pub some_entry : (q : List ℕ) (rows : Rows) (at : Place) → IsFoundAt q rows at → Boxed
some_entry q rows at found = any (get_or rows at.row []) (omega (arith, found.place.index))

-- a map that has changed, and the rows that keep it
pub record After (others : Rows) (count : ℕ) (changed : LedgerMap) : Type 0 where
  pub rows : AreRows others count
  pub map : changed ≡ map_of (joined others)

pub add_rows : (rows others : Rows) (at : Place) (key : LedgerKey) (h : Boxed) (count : ℕ) → AreRows rows count → IsGapAt (ranked_key key) rows at → key_format.fits key
    → IsKeptAt (key_bytes key) h.value.kept → count < 4294967295
    → pairs_of (joined others) ≡ pairs_of (before rows at.row at.index) ++ pair_of h ∷ pairs_of (after rows at.row at.index) → AllByRecursion HasEntry others
    → After others (count + 1) (insert (map_of (joined rows)) (key_bytes key) h.value.kept)
add_rows rows others at key h count s gap fits kept few e full =
    let c = added rows at key (pairs_of (joined others)) h s.entries gap fits kept e in
    record {
      rows = rows_after others (count + 1) c.sorted c.each full
          (omega (arith, s.counted, length_pairs (joined others), one_more rows at (pair_of h) (pairs_of (joined others)) e)) (omega (arith, few));
      map = c.map;
    }

pub replace_rows : (rows others : Rows) (at : Place) (key : LedgerKey) (v : Kept) (count : ℕ) → AreRows rows count → IsFoundAt (ranked_key key) rows at → key_format.fits key
    → IsKeptAt (key_bytes key) v
    → pairs_of (joined others) ≡ pairs_of (before rows at.row at.index) ++ (ranked_key (key_of v.entry), v) ∷ pairs_of (after rows at.row (suc at.index)) → AllByRecursion HasEntry others
    → After others count (insert (map_of (joined rows)) (key_bytes key) v)
replace_rows rows others at key v count s found fits kept e full =
    let d = some_entry (ranked_key key) rows at found in
    let spelled : ranked_key (key_of v.entry) ≡ key_bytes key = key_ranked (key_of v.entry) (key_of_fits v.entry kept.fits) ∙ sym kept.keyed in
    let own : ranked_key (key_of v.entry) ≡ ranked_key key = spelled ∙ sym (key_ranked key fits) in
    let is_at : IsAt (ranked_key (key_of v.entry), v) = subst (λ (b : List ℕ). IsKeptAt b v) (sym spelled) kept in
    let c = replaced rows at key (pairs_of (joined others)) d (ranked_key (key_of v.entry)) v s.entries found fits own is_at e in
    record {
      rows = rows_after others count c.sorted c.each full
          (omega (arith, s.counted, length_pairs (joined others), as_many rows at d (ranked_key (key_of v.entry), v) (pairs_of (joined others)) found.place.row found.place.index e))
          (omega (arith, s.counted, s.entries.few, length_pairs (joined rows)));
      map = c.map;
    }

-- an entry that is found has the key of another that is kept at this key
pub same_key : (rows : Rows) (at : Place) (key : LedgerKey) (v : Kept) (d : Boxed) → AreEntries (pairs_of (joined rows)) → IsFoundAt (ranked_key key) rows at → key_format.fits key
    → IsKeptAt (key_bytes key) v → own_bytes (get_or (get_or rows at.row []) at.index d) ≡ key_bytes (key_of v.entry)
same_key rows at key v d s found fits kept = sym (kept_there rows at key d s found fits).keyed ∙ kept.keyed

pub take_rows : (rows others : Rows) (at : Place) (key : LedgerKey) (count : ℕ) → AreRows rows count → IsFoundAt (ranked_key key) rows at → key_format.fits key
    → pairs_of (joined others) ≡ pairs_of (before rows at.row at.index) ++ pairs_of (after rows at.row (suc at.index)) → AllByRecursion HasEntry others
    → After others (count - 1) (remove (map_of (joined rows)) (key_bytes key))
take_rows rows others at key count s found fits e full =
    let d = some_entry (ranked_key key) rows at found in
    let c = taken rows at key (pairs_of (joined others)) d s.entries found fits e in
    record {
      rows = rows_after others (count - 1) c.sorted c.each full
          (omega (arith, s.counted, length_pairs (joined others), one_less rows at d (pairs_of (joined others)) found.place.row found.place.index e))
          (omega (arith, s.counted, s.entries.few, length_pairs (joined rows)));
      map = c.map;
    }

max_less : (a b n : ℕ) → a < n → b < n → max a b < n
max_less a b n p q = omega arith

lasting_kept : (bytes : List ℕ) (kept : Kept) (live_until : ℕ) → IsKeptAt bytes kept → live_until < 2 ^ 32 → IsKeptAt bytes (lasting kept live_until)
lasting_kept bytes kept live_until is lt =
    record { fits = is.fits; numbered = max_less kept.live_until live_until (2 ^ 32) is.numbered lt; keyed = is.keyed; hashed = is.hashed }

pub raise_rows : (rows others : Rows) (at : Place) (key : LedgerKey) (live_until count : ℕ) → AreRows rows count → IsFoundAt (ranked_key key) rows at → key_format.fits key → live_until < 2 ^ 32
    → ((d : Boxed) → pairs_of (joined others) ≡ pairs_of (before rows at.row at.index)
    ++ (own_key (get_or (get_or rows at.row []) at.index d), lasting (kept_of (get_or (get_or rows at.row []) at.index d)) live_until) ∷ pairs_of (after rows at.row (suc at.index)))
    → AllByRecursion HasEntry others → After others count (raise (map_of (joined rows)) key live_until)
raise_rows rows others at key live_until count s found fits lt e full =
    let d = some_entry (ranked_key key) rows at found in
    let x = get_or (get_or rows at.row []) at.index d in
    let own : own_key x ≡ ranked_key key = antisymmetric (own_key x) (ranked_key key) (found.same d) in
    let there : IsKeptAt (key_bytes key) (kept_of x) = kept_there rows at key d s.entries found fits in
    let is_at : IsAt (own_key x, lasting (kept_of x) live_until) =
    subst (λ (b : List ℕ). IsKeptAt b (lasting (kept_of x) live_until)) (sym (own ∙ key_ranked key fits)) (lasting_kept (key_bytes key) (kept_of x) live_until there lt) in
    let c = replaced rows at key (pairs_of (joined others)) d (own_key x) (lasting (kept_of x) live_until) s.entries found fits own is_at (e d) in
    record {
      rows = rows_after others count c.sorted c.each full
          (omega (arith, s.counted, length_pairs (joined others), as_many rows at d (own_key x, lasting (kept_of x) live_until) (pairs_of (joined others)) found.place.row found.place.index (e d)))
          (omega (arith, s.counted, s.entries.few, length_pairs (joined rows)));
      map = ap (λ (o : Option Kept). raised o (map_of (joined rows)) key live_until) (sym (found_entry rows at key d s.entries found fits)) ∙ c.map;
    }

pub raise_none : (rows : Rows) (at : Place) (key : LedgerKey) (live_until : ℕ) → AreEntries (pairs_of (joined rows)) → IsGapAt (ranked_key key) rows at → key_format.fits key
    → map_of (joined rows) ≡ raise (map_of (joined rows)) key live_until
raise_none rows at key live_until s gap fits =
    ap (λ (o : Option Kept). raised o (map_of (joined rows)) key live_until) (found_none rows at key s gap fits)
