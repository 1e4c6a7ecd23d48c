-- A search by name in the order of names finds the row that a search through all rows finds.
use Rattle.std.proofs.Common.{◌≡◌, ℕ, zero, suc, ◌+◌, ◌<◌, Bool, true, false, not, ◌||◌, cond, List, [], ◌∷◌, length, get_or, map, Option, Some, None, arith, refl, sym, ap, ap₂, ◌∙◌, subst}
use Rattle.std.specs.Prelude.{◌&&◌, slice_get}
use Rattle.std.specs.declared.cmp.Ordering.TheVariants.{Less, Equal, Greater}
use Rattle.std.specs.Cmp.Lexicographic.{slice_cmp, nat_list_cmp_total, nat_list_eq_equiv}
use Rattle.std.specs.FinMap.{slice_cmp-IsAntisymmetric, nat_cmp-IsAntisymmetric}
use Rattle.std.specs.List.{find, list_any}
use Rattle.std.specs.List.Sorted.{IsNonDecreasingBy, IsPartitionPoint, IsSortedBy}
use Rattle.std.specs.Ordering.{nat_cmp, is_eq, is_lt, ordering_index}
use Rattle.std.specs.Str.{bytes_eq}
use Rattle.std.proofs.lemmas.Bool.{cases_lt}
use Rattle.std.proofs.lemmas.List.Sorted.{searchable_from_sorted}
use Rattle.std.proofs.lemmas.Map.Text.{is_eq-slice_cmp}
use Rattle.std.proofs.lemmas.Slice.Eq.{bytes_eq-Decides}
use mathlib.Core.Logic.{⊎_elim}
use Rattle.list_laws.specs.Twice.{stand_twice}
use Rattle.host_interface.specs.Named.{is_named}
use Rattle.host_interface.specs.Order.{ascend, name_in, named_in, names_of, row_of_module}
use Rattle.host_interface.specs.Rows.{Row}

both_true : (a b : Bool) → (a && b) ≡ true → (a ≡ true) × (b ≡ true)
both_true true true e = (refl, refl)
both_true true false e = cc
both_true false b e = cc

both_false : (a b : Bool) → (a || b) ≡ false → (a ≡ false) × (b ≡ false)
both_false false false e = (refl, refl)
both_false false true e = cc
both_false true b e = cc

and_false : (a : Bool) → (a && false) ≡ false
and_false true = refl
and_false false = refl

and_true : (a : Bool) → (a && true) ≡ a
and_true true = refl
and_true false = refl

not_true : (b : Bool) → not b ≡ true → b ≡ false
not_true true e = cc
not_true false e = refl

false_unless : (b : Bool) → (b ≡ true → ⊥) → b ≡ false
false_unless true h = absurd (h refl)
false_unless false h = refl

-- ---- searches through all rows

-- a row of another name is passed over
apart : (letter name : List ℕ) (row : Row) (rows : List Row) → bytes_eq row.name name ≡ false → find (is_named letter name) (row ∷ rows) ≡ find (is_named letter name) rows
apart letter name row rows e =
    ap (λ (b : Bool). cond (bytes_eq row.letter letter && b) (Some row) (find (is_named letter name) rows)) e
    ∙ ap (λ (b : Bool). cond b (Some row) (find (is_named letter name) rows)) (and_false (bytes_eq row.letter letter))

-- no row has the name
pub none_named : (rows : List Row) (letter name : List ℕ) → list_any (bytes_eq name) (names_of rows) ≡ false → find (is_named letter name) rows ≡ None
none_named [] letter name e = refl
none_named (row ∷ rows) letter name e =
    let h = both_false (bytes_eq name row.name) (list_any (bytes_eq name) (names_of rows)) e in
    apart letter name row rows (nat_list_eq_equiv.symm row.name name ∙ h.0) ∙ none_named rows letter name h.1

-- no row has one of the names, which those of all rows are among
pub absent : (rows : List Row) (names : List (List ℕ)) (letter name : List ℕ) → named_in rows names ≡ true → list_any (bytes_eq name) names ≡ false → find (is_named letter name) rows ≡ None
absent [] names letter name whole none = refl
absent (row ∷ rows) names letter name whole none =
    let h = both_true (list_any (bytes_eq row.name) names) (named_in rows names) whole in
    let other : bytes_eq row.name name ≡ false = false_unless (bytes_eq row.name name) (λ e.
    (let same : row.name ≡ name = (bytes_eq-Decides row.name name).0 e in
    let clash : true ≡ false = sym (subst (λ n. list_any (bytes_eq n) names ≡ true) same h.0) ∙ none in
    cc)) in
    apart letter name row rows other ∙ absent rows names letter name h.1 none

-- a test that no row's name passes
none_passes : (test : List ℕ → Bool) (rows : List Row) (k : ℕ) (row : Row) → slice_get rows k ≡ Some row → list_any test (names_of rows) ≡ false → test row.name ≡ false
none_passes test [] k row at e = cc
none_passes test (r ∷ rows) zero row at e =
    let same : r ≡ row = cc in
    ap (λ (x : Row). test x.name) (sym same) ∙ (both_false (test r.name) (list_any test (names_of rows)) e).0
none_passes test (r ∷ rows) (suc k) row at e = none_passes test rows k row at (both_false (test r.name) (list_any test (names_of rows)) e).1

first_named : (row : Row) (rows : List Row) (letter name : List ℕ) → list_any (bytes_eq row.name) (names_of rows) ≡ false → row.name ≡ name → find (is_named letter name) (row ∷ rows) ≡ row_of_module (Some row) letter
first_named row rows letter name none e =
    let named : (bytes_eq row.letter letter && bytes_eq row.name name) ≡ bytes_eq row.letter letter =
    ap (λ (b : Bool). bytes_eq row.letter letter && b) ((bytes_eq-Decides row.name name).1 e) ∙ and_true (bytes_eq row.letter letter) in
    let later = none_named rows letter name (subst (λ n. list_any (bytes_eq n) (names_of rows) ≡ false) e none) in
    ap₂ (λ (b : Bool) (o : Option Row). cond b (Some row) o) named later

-- the row of an index, if its name is the one that is looked for
found_named : (rows : List Row) (k : ℕ) (row : Row) (letter name : List ℕ) → stand_twice (names_of rows) ≡ false → slice_get rows k ≡ Some row → row.name ≡ name
    → find (is_named letter name) rows ≡ row_of_module (Some row) letter
found_named [] k row letter name distinct at e = cc
found_named (r ∷ rows) zero row letter name distinct at e =
    let same : r ≡ row = cc in
    let h = both_false (list_any (bytes_eq r.name) (names_of rows)) (stand_twice (names_of rows)) distinct in
    first_named r rows letter name h.0 (ap (λ (x : Row). x.name) same ∙ e) ∙ ap (λ (x : Row). row_of_module (Some x) letter) same
found_named (r ∷ rows) (suc k) row letter name distinct at e =
    let h = both_false (list_any (bytes_eq r.name) (names_of rows)) (stand_twice (names_of rows)) distinct in
    let other : bytes_eq r.name name ≡ false = ap (bytes_eq r.name) (sym e) ∙ none_passes (bytes_eq r.name) rows k row at h.0 in
    apart letter name r rows other ∙ found_named rows k row letter name h.1 at e

-- the row of the index that a search by name found
pub by_index : (rows : List Row) (o : Option Row) (k : ℕ) (letter name : List ℕ) → stand_twice (names_of rows) ≡ false → list_any (bytes_eq []) (names_of rows) ≡ false → slice_get rows k ≡ o → name_in o ≡ name
    → row_of_module o letter ≡ find (is_named letter name) rows
by_index rows None k letter name distinct named at e = sym (none_named rows letter name (subst (λ n. list_any (bytes_eq n) (names_of rows) ≡ false) e named))
by_index rows (Some row) k letter name distinct named at e = sym (found_named rows k row letter name distinct at e)

-- ---- the search by name

ascends : (name : ℕ → List ℕ) (order : List ℕ) → ascend name order ≡ true → (k d : ℕ) → suc k < length order → is_lt (slice_cmp nat_cmp (name (get_or order (suc k) d)) (name (get_or order k d))) ≡ false
ascends name [] e k d lt = absurd (omega arith)
ascends name (x ∷ []) e k d lt = absurd (omega arith)
ascends name (x ∷ y ∷ order) e zero d lt = not_true (is_lt (slice_cmp nat_cmp (name y) (name x))) (both_true (not (is_lt (slice_cmp nat_cmp (name y) (name x)))) (ascend name (y ∷ order)) e).0
ascends name (x ∷ y ∷ order) e (suc k) d lt = ascends name (y ∷ order) (both_true (not (is_lt (slice_cmp nat_cmp (name y) (name x)))) (ascend name (y ∷ order)) e).1 k d (omega arith)

sorted : (name : ℕ → List ℕ) (order : List ℕ) → ascend name order ≡ true → IsSortedBy (λ k l. is_lt (slice_cmp nat_cmp (name k) (name l))) order
sorted name order e k d low lt =
    subst (λ (n : ℕ). is_lt (slice_cmp nat_cmp (name (get_or order n d)) (name (get_or order k d))) ≡ false) {x = suc k} {y = k + 1} (omega arith) (ascends name order e k d (omega arith))

pub rises : (names : ℕ → List ℕ) (order : List ℕ) (name : List ℕ) → ascend names order ≡ true → IsNonDecreasingBy (λ k. ordering_index (slice_cmp nat_cmp (names k) name)) order
rises names order name e = searchable_from_sorted nat_list_cmp_total names order name (sorted names order e)

pub equal_name : (name other : List ℕ) → slice_cmp nat_cmp name other ≡ Equal → name ≡ other
equal_name name other e = slice_cmp-IsAntisymmetric nat_cmp-IsAntisymmetric name other e

all_differ : (names : ℕ → List ℕ) (order : List ℕ) (name : List ℕ) → ((i d : ℕ) → i < length order → bytes_eq name (names (get_or order i d)) ≡ false) → list_any (bytes_eq name) (map names order) ≡ false
all_differ names [] name h = refl
all_differ names (k ∷ order) name h = ap₂ (λ (a b : Bool). a || b) (h zero 0 (omega arith)) (all_differ names order name (λ i d lt. h (suc i) d (omega arith)))

-- the search found no index
pub none_found : (names : ℕ → List ℕ) (order : List ℕ) (name : List ℕ) (at : ℕ)
    → IsPartitionPoint (λ k. slice_cmp nat_cmp (names k) name ≡ Less) (λ k. slice_cmp nat_cmp (names k) name ≡ Greater) order at
    → list_any (bytes_eq name) (map names order) ≡ false
none_found names order name at parted =
    all_differ names order name (λ i d lt.
    nat_list_eq_equiv.symm name (names (get_or order i d)) ∙ sym (is_eq-slice_cmp (names (get_or order i d)) name)
    ∙ ⊎_elim (λ u. ap is_eq (parted.0 i d (omega arith) u)) (λ u. ap is_eq (parted.1 i d u lt)) (cases_lt i at))
