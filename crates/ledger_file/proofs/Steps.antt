-- Records judged one after the other.
use Rattle.std.specs.declared.cmp.Ordering.{Ordering}
use Rattle.std.specs.Ordering.{nat_cmp}
use Rattle.std.specs.Cmp.Lexicographic.{slice_cmp}
use Rattle.std.specs.FinMap.{empty, entries, entries_sorted, entries-from_sorted, empty_of_len, from_sorted, is_sorted, len, len-entries, same_entries_map}
use Rattle.std.proofs.Common.{◌≡◌, ℕ, suc, ◌+◌, ◌<◌, ◌≤◌, T, List, [], ◌∷◌, ◌++◌, length, take, drop, get_or, map, Some, None, Option, refl, sym, ap, subst, ◌∙◌, arith, add-one}
use Rattle.std.proofs.lemmas.List.{take_more, map-append, length-map, length-take-le, take_all}
use Rattle.std.proofs.Math.Seq.{drop-cons}
use Rattle.ledger_types.specs.declared.record.LedgerRecord.{LedgerRecord}
use Rattle.ledger_spec.specs.declared.Kept.{Kept}
use Rattle.ledger_spec.specs.declared.LedgerWhy.{LedgerWhy}
use Rattle.ledger_spec.specs.declared.LedgerRefusal.{LedgerRefusal}
use Rattle.ledger_spec.specs.LedgerMap.{LedgerMap}
use Rattle.ledger_spec.specs.LedgerFile.{record_key, fault_of, fault_at, first_fault, map_of, refusal}
use Rattle.entry_map.specs.Entries.{last_key}
use Rattle.ledger_file.specs.Records.{pair_of, IsFaultUnlessMemory, IsFirstUnlessMemory}
use Rattle.ledger_file.specs.declared.error.LedgerErr.{LedgerErr}
use Rattle.ledger_file.specs.declared.error.LedgerErr.TheVariants.{Refused, NoMemory}
use Rattle.ledger_file.proofs.Keys.{last_key-push}

-- the entries of the first n records
abbrev pub made : List LedgerRecord → ℕ → List (List ℕ × Kept)
made all n = map pair_of (take n all)

-- n records are judged, and none of them is at fault
pub record Judged (all : List LedgerRecord) (n : ℕ) (entries : List (List ℕ × Kept)) : Type 0 where
  pub entries-is : entries ≡ made all n
  pub fault-is : first_fault 0 None all ≡ first_fault n (last_key (made all n)) (drop n all)

made_more : (all : List LedgerRecord) (n : ℕ) (z : LedgerRecord) → n < length all → z ≡ get_or all n z → made all (n + 1) ≡ made all n ++ pair_of z ∷ []
made_more all n z lt is =
    ap (map pair_of) (take_more all n z lt)
    ∙ map-append pair_of (take n all) (get_or all n z ∷ [])
    ∙ ap (λ (y : LedgerRecord). made all n ++ pair_of y ∷ []) (sym is)

rest_is : (all : List LedgerRecord) (n : ℕ) (z : LedgerRecord) → n < length all → z ≡ get_or all n z → drop n all ≡ z ∷ drop (n + 1) all
rest_is all n z lt is = drop-cons all n z lt ∙ rw add-one (ap (λ (y : LedgerRecord). y ∷ drop (suc n) all) (sym is))

pub judged_none : (all : List LedgerRecord) → Judged all 0 []
judged_none all = record { entries-is = refl; fault-is = refl }

fault_is : (all : List LedgerRecord) (n : ℕ) (es : List (List ℕ × Kept)) (z : LedgerRecord) → Judged all n es → n < length all → z ≡ get_or all n z
    → first_fault 0 None all ≡ fault_at n (fault_of (last_key es) z) (first_fault (n + 1) (Some (record_key z)) (drop (n + 1) all))
fault_is all n es z j lt is =
    j.fault-is
    ∙ ap (first_fault n (last_key (made all n))) (rest_is all n z lt is)
    ∙ ap (λ (xs : List (List ℕ × Kept)). fault_at n (fault_of (last_key xs) z) (first_fault (n + 1) (Some (record_key z)) (drop (n + 1) all))) (sym j.entries-is)

-- one record more, which is not at fault
pub judged_more : (all : List LedgerRecord) (n m : ℕ) (es fs : List (List ℕ × Kept)) (z : LedgerRecord) → Judged all n es → n < length all
    → z ≡ get_or all n z → fault_of (last_key es) z ≡ None → fs ≡ es ++ pair_of z ∷ [] → m ≡ n + 1 → Judged all m fs
judged_more all n m es fs z j lt is good more next =
    let made-is : made all (n + 1) ≡ made all n ++ pair_of z ∷ [] = made_more all n z lt is in
    let last : last_key (made all (n + 1)) ≡ Some (record_key z) = ap last_key made-is ∙ last_key-push (made all n) (pair_of z) in
    let whole : Judged all (n + 1) fs = record {
      entries-is = more ∙ ap (λ (xs : List (List ℕ × Kept)). xs ++ pair_of z ∷ []) j.entries-is ∙ sym made-is;
      fault-is = fault_is all n es z j lt is
          ∙ ap (λ (f : Option LedgerWhy). fault_at n f (first_fault (n + 1) (Some (record_key z)) (drop (n + 1) all))) good
          ∙ ap (λ (k : Option (List ℕ)). first_fault (n + 1) k (drop (n + 1) all)) (sym last);
    } in
    subst (λ (k : ℕ). Judged all k fs) (sym next) whole

-- a record that is at fault
pub judged_fault : (all : List LedgerRecord) (n at : ℕ) (es : List (List ℕ × Kept)) (z : LedgerRecord) (why : LedgerWhy) (r : LedgerRefusal)
    → Judged all n es → n < length all → z ≡ get_or all n z → fault_of (last_key es) z ≡ Some why → at ≡ n → r ≡ refusal why at
    → first_fault 0 None all ≡ Some r
judged_fault all n at es z why r j lt is bad place answer =
    fault_is all n es z j lt is
    ∙ ap (λ (f : Option LedgerWhy). fault_at n f (first_fault (n + 1) (Some (record_key z)) (drop (n + 1) all))) bad
    ∙ ap (λ (k : ℕ). Some (refusal why k)) (sym place)
    ∙ ap (λ (x : LedgerRefusal). Some x) (sym answer)

-- ---- a map of records

abbrev pub order : List ℕ → List ℕ → Ordering
order a b = slice_cmp nat_cmp a b

pub entries-empty : {K X : Type 0} (R : K → K → Ordering) → entries (empty {X = X} {R = R}) ≡ []
entries-empty {X = X} R =
    let none : entries (from_sorted {X = X} {R = R} []) ≡ [] = entries-from_sorted R [] tt in
    let same = empty_of_len (from_sorted {X = X} {R = R} []) (len-entries (from_sorted {X = X} {R = R} []) ∙ ap length none) in
    ap entries (sym same) ∙ none

len_made : (all : List LedgerRecord) (n : ℕ) → n ≤ length all → length (made all n) ≡ n
len_made all n le = length-map (take n all) pair_of ∙ length-take-le n all le

take_whole : (all : List LedgerRecord) → take (length all) all ≡ all
take_whole all = take_all (length all) all (omega arith)

pub all_made : (all : List LedgerRecord) (n : ℕ) (m : LedgerMap) → Judged all n (entries m) → n ≡ length all → m ≡ map_of all
all_made all n m j whole =
    let es : entries m ≡ map pair_of all = j.entries-is ∙ ap (made all) whole ∙ ap (map pair_of) (take_whole all) in
    let sorted : T (is_sorted order (map pair_of all)) = subst (λ (xs : List (List ℕ × Kept)). T (is_sorted order xs)) es (entries_sorted m) in
    same_entries_map m (map_of all) (es ∙ sym (entries-from_sorted order (map pair_of all) sorted))

pub first_by : (all : List LedgerRecord) (n : ℕ) (m : LedgerMap) (z : LedgerRecord) (e : LedgerErr) → Judged all n (entries m) → n < length all
    → z ≡ get_or all n z → IsFaultUnlessMemory (len m) (fault_of (last_key (entries m)) z) e → IsFirstUnlessMemory (first_fault 0 None all) e
first_by all n m z (Refused r) j lt is f =
    judged_fault all n (len m) (entries m) z f.0 r j lt is f.1 (len-entries m ∙ ap length j.entries-is ∙ len_made all n (omega arith)) f.2
first_by all n m z NoMemory j lt is f = tt
