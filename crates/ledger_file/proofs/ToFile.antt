-- The file of a ledger is read as that ledger.
use Rattle.std.specs.Prelude.{All}
use Rattle.std.specs.Ordering.{is_lt}
use Rattle.std.specs.List.{AllByRecursion}
use Rattle.std.specs.Str.{bytes_eq}
use Rattle.std.specs.FinMap.{is_sorted, entries, entries_sorted, entries-from_sorted, same_entries_map, len-entries, values}
use Rattle.std.specs.FinMap.Entries.{below_all}
use Rattle.std.proofs.lemmas.List.{length-map}
use Rattle.std.proofs.lemmas.Slice.Eq.{bytes_eq-Decides}
use Rattle.std.proofs.Common.{◌≡◌, ℕ, suc, ◌+◌, Bool, true, false, not, ◌&&◌, cond, T, List, [], ◌∷◌, length, map, Some, None, Option, Ok, Err, Result, refl, sym, ap, subst, ◌∙◌, inl, inr, arith}
use Rattle.sha2.specs.Sha256.{sha256}
use Rattle.sha2.proofs.Facts256.{length-sha256}
use Rattle.xdr_spec.specs.Format.{number32, list}
use Rattle.xdr_spec.proofs.Lemmas.{spells_decoded}
use Rattle.value_types.specs.Hash.{hash_format}
use Rattle.file_version.specs.FileVersion.{protocol_format}
use Rattle.ledger_types.specs.Header.{header_in, header_format}
use Rattle.ledger_types.specs.Record.{ttl_format, record_format}
use Rattle.ledger_types.specs.File.{file_format, file_lawful, rest_format}
use Rattle.file_version.specs.declared.version.FileVersion.{FileVersion}
use Rattle.file_version.specs.declared.version.FileVersion.TheVariants.{V1, V2}
use Rattle.ledger_types.specs.declared.header.Header.{Header}
use Rattle.ledger_types.specs.declared.entry.LedgerEntryData.{LedgerEntryData}
use Rattle.ledger_types.specs.declared.entry.LedgerEntryData.TheVariants.{ContractData, ContractCode}
use Rattle.ledger_types.specs.declared.record.LedgerRecord.{LedgerRecord}
use Rattle.ledger_spec.specs.declared.Kept.{Kept}
use Rattle.ledger_spec.specs.declared.LedgerWhy.TheVariants as why
use Rattle.ledger_spec.specs.declared.LedgerRefusal.{LedgerRefusal}
use Rattle.ledger_spec.specs.LedgerMap.{LedgerMap, IsLedgerMap, IsKeptAt, HasCodeHash}
use Rattle.ledger_spec.specs.LedgerFile.{record_of, file_of, ledger_bytes, bytes_in, can_run, has_protocol, are_settings, has_next, is_above, record_key, fault_of, first_fault, map_of, as_map, judged_if, ledger_of, refusal, has_code_hash}
use Rattle.ledger_file.specs.Records.{pair_of}
use Rattle.ledger_file.specs.FileOf.{IsFileOf, IsSpelled}
use Rattle.ledger_file.proofs.Digests.{IsBytes-sha256}
use Rattle.ledger_file.proofs.Keys.{order, is_true, first_of_two, second_of_two, both_of_two}

-- the record of an entry and the bytes of its key
abbrev made : List ℕ × Kept → LedgerRecord
made e = record_of e.1

-- ---- the records have spellings

record_fits : (bytes : List ℕ) (kept : Kept) → IsKeptAt bytes kept → record_format.fits (record_of kept)
unfolding record_format ttl_format hash_format number32
record_fits bytes kept h = (h.fits, ((length-sha256 _, IsBytes-sha256 _), h.numbered))

first_kept : (x : List ℕ × Kept) (es : List (List ℕ × Kept)) → All (λ e. IsKeptAt e.0 e.1) (x ∷ es) → IsKeptAt x.0 x.1
first_kept x es h = h 0 x (omega arith)

rest_kept : (x : List ℕ × Kept) (es : List (List ℕ × Kept)) → All (λ e. IsKeptAt e.0 e.1) (x ∷ es) → All (λ e. IsKeptAt e.0 e.1) es
rest_kept x es h k d lt = h (suc k) d (omega arith)

records_fit : (es : List (List ℕ × Kept)) → All (λ e. IsKeptAt e.0 e.1) es → AllByRecursion record_format.fits (map record_of (map (λ (e : List ℕ × Kept). e.1) es))
records_fit [] h = tt
records_fit (x ∷ es) h = (record_fits x.0 x.1 (first_kept x es h), records_fit es (rest_kept x es h))

-- ---- no record is at fault

code_hash : (body : LedgerEntryData) → HasCodeHash body → has_code_hash body ≡ true
code_hash (ContractData entry) h = refl
code_hash (ContractCode entry) h = (bytes_eq-Decides entry.hash.0 (sha256 entry.code)).1 h

no_fault : (a t c : Bool) → a ≡ true → t ≡ true → c ≡ true
    → cond (not a) (Some why.Order) (cond (not t) (Some why.TtlHash) (cond (not c) (Some why.CodeHash) None)) ≡ None
no_fault true true true p q r = refl
no_fault true true false p q r = cc
no_fault true false c p q r = cc
no_fault false t c p q r = cc

good_record : (before : Option (List ℕ)) (x : List ℕ × Kept) → is_above before x.0 ≡ true → IsKeptAt x.0 x.1 → fault_of before (made x) ≡ None
good_record before x above h =
    no_fault (is_above before (record_key (made x))) (bytes_eq (sha256 (record_key (made x))) (sha256 (record_key (made x)))) (has_code_hash x.1.entry.data)
    (ap (is_above before) (sym h.keyed) ∙ above) ((bytes_eq-Decides (sha256 (record_key (made x))) (sha256 (record_key (made x)))).1 refl) (code_hash x.1.entry.data h.hashed)

abbrev IsAboveFirst : Option (List ℕ) → List (List ℕ × Kept) → Type 0
IsAboveFirst before [] = Unit {0}
IsAboveFirst before (x ∷ es) = is_above before x.0 ≡ true

next_above : (k : List ℕ) (es : List (List ℕ × Kept)) → below_all order k es ≡ true → IsAboveFirst (Some k) es
next_above k [] h = tt
next_above k (x ∷ es) h = first_of_two (is_lt (order k x.0)) (below_all order k es) h

faultless : (at : ℕ) (before : Option (List ℕ)) (es : List (List ℕ × Kept)) → IsAboveFirst before es → is_sorted order es ≡ true
    → All (λ e. IsKeptAt e.0 e.1) es → first_fault at before (map record_of (map (λ (e : List ℕ × Kept). e.1) es)) ≡ None
faultless at before [] above s h = refl
faultless at before (x ∷ es) above s h =
    let kept = first_kept x es h in
    let key : record_key (made x) ≡ x.0 = sym kept.keyed in
    let rest : first_fault (at + 1) (Some x.0) (map record_of (map (λ (e : List ℕ × Kept). e.1) es)) ≡ None =
    faultless (at + 1) (Some x.0) es (next_above x.0 es (first_of_two (below_all order x.0 es) (is_sorted order es) s))
    (second_of_two (below_all order x.0 es) (is_sorted order es) s) (rest_kept x es h) in
    let later : first_fault (at + 1) (Some (record_key (made x))) (map record_of (map (λ (e : List ℕ × Kept). e.1) es)) ≡ None =
    ap (λ (k : List ℕ). first_fault (at + 1) (Some k) (map record_of (map (λ (e : List ℕ × Kept). e.1) es))) key ∙ rest in
    rw (good_record before x above kept) later

-- ---- the map is that of the records

pair_again : (x : List ℕ × Kept) → IsKeptAt x.0 x.1 → pair_of (made x) ≡ x
pair_again x h = λ i. (sym h.keyed i, x.1)

cons_is : (x y : List ℕ × Kept) (xs ys : List (List ℕ × Kept)) → x ≡ y → xs ≡ ys → x ∷ xs ≡ y ∷ ys
cons_is x y xs ys p e = cc

pairs_again : (es : List (List ℕ × Kept)) → All (λ e. IsKeptAt e.0 e.1) es → map pair_of (map record_of (map (λ (e : List ℕ × Kept). e.1) es)) ≡ es
pairs_again [] h = refl
pairs_again (x ∷ es) h =
    cons_is (pair_of (made x)) x (map pair_of (map record_of (map (λ (e : List ℕ × Kept). e.1) es))) es (pair_again x (first_kept x es h)) (pairs_again es (rest_kept x es h))

map_again : (m : LedgerMap) → IsLedgerMap m → map_of (map record_of (values m)) ≡ m
map_again m h =
    let es : map pair_of (map record_of (values m)) ≡ entries m = pairs_again (entries m) h.each in
    let sorted : T (is_sorted order (map pair_of (map record_of (values m)))) =
    subst (λ (x : List (List ℕ × Kept)). T (is_sorted order x)) (sym es) (entries_sorted m) in
    same_entries_map (map_of (map record_of (values m))) m (entries-from_sorted order (map pair_of (map record_of (values m))) sorted ∙ es)

-- ---- the file

-- the protocol can stand in a file of this version
abbrev Names : FileVersion → Header → Type 0
Names version header = (protocol_format version).fits header.protocol

header_fits_in : (version : FileVersion) (header : Header) → header_format.fits header → Names version header → (header_in version).fits header
unfolding header_in
header_fits_in version header h p = (h.0, (p, h.1.1))

records_are : (m : LedgerMap) → IsLedgerMap m → (list 4294967295 record_format).fits (map record_of (values m))
unfolding list
records_are m h =
    let count : length (map record_of (values m)) ≡ length (entries m) = length-map (values m) record_of ∙ length-map (entries m) (λ (e : List ℕ × Kept). e.1) in
    (omega (arith, count, len-entries m, h.few), omega (arith, count, len-entries m, h.few), records_fit (entries m) h.each)

file_fits : (version : FileVersion) (header : Header) (m : LedgerMap) → header_format.fits header → Names version header → IsLedgerMap m
    → file_format.fits (file_of version header m)
unfolding file_format rest_format
file_fits version header m fits p h = (refl, (header_fits_in version header fits p, records_are m h))

named : (header : Header) → header_format.fits header → Names V2 header
unfolding header_in
named header h = h.1.0

judged_by : (s n f : Bool) (r : Result (Header × LedgerMap) LedgerRefusal) → s ≡ true → (f ≡ true → n ≡ true)
    → cond (not s) (Err (refusal why.Settings 0)) (cond (f && not n) (Err (refusal why.SeqEnd 0)) r) ≡ r
judged_by true true true r p q = refl
judged_by true true false r p q = refl
judged_by true false true r p q = let no : false ≡ true = q refl in cc
judged_by true false false r p q = refl
judged_by false n f r p q = cc

version_is_read : (version : FileVersion) (follows : Bool) (header : Header) (m : LedgerMap) → header_format.fits header → Names version header → IsLedgerMap m
    → can_run header ≡ true → (follows ≡ true → has_next header ≡ true) → ledger_of follows (bytes_in version header m) ≡ Ok (header, m)
version_is_read version follows header m fits p is_map runs next =
    let file = file_of version header m in
    let none : first_fault 0 None (map record_of (values m)) ≡ None =
    faultless 0 None (entries m) (first_above (entries m)) (is_true (is_sorted order (entries m)) (entries_sorted m)) is_map.each in
    ap (judged_if follows) (spells_decoded file_format file_lawful file (bytes_in version header m) (record { fits = file_fits version header m fits p is_map; bytes-is = refl }))
    ∙ judged_by (can_run header) (has_next header) follows (as_map file (first_fault 0 None (map record_of (values m)))) runs next
    ∙ ap (as_map file) none
    ∙ ap (λ (n : LedgerMap). Ok (header, n)) (map_again m is_map)
  where
    first_above : (es : List (List ℕ × Kept)) → IsAboveFirst None es
    first_above [] = tt
    first_above (x ∷ es) = refl

by_version : (follows : Bool) (bytes : List ℕ) (header : Header) (m : LedgerMap) → header_format.fits header → IsLedgerMap m
    → can_run header ≡ true → (follows ≡ true → has_next header ≡ true) → IsSpelled bytes header m → ledger_of follows bytes ≡ Ok (header, m)
by_version follows bytes header m fits is_map runs next (inl is) =
    ap (ledger_of follows) is ∙ version_is_read V2 follows header m fits (named header fits) is_map runs next
by_version follows bytes header m fits is_map runs next (inr old) =
    ap (ledger_of follows) old.1 ∙ version_is_read V1 follows header m fits old.0 is_map runs next

pub file_is_read : (follows : Bool) (bytes : List ℕ) (header : Header) (m : LedgerMap) → IsFileOf follows bytes header m → ledger_of follows bytes ≡ Ok (header, m)
file_is_read follows bytes header m h =
    by_version follows bytes header m h.fits h.is_map (both_of_two (has_protocol header) (are_settings header.settings) h.protocol h.settings) h.next h.spelled

pub written_is_read : (header : Header) (m : LedgerMap) → header_format.fits header → IsLedgerMap m → can_run header ≡ true
    → ledger_of false (ledger_bytes header m) ≡ Ok (header, m)
written_is_read header m fits is_map runs = version_is_read V2 false header m fits (named header fits) is_map runs (λ e. absurd (not_true e))
  where
    not_true : false ≡ true → ⊥
    not_true e = cc
