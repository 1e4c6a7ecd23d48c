-- Keys in order, and the last of them.
use Rattle.std.specs.declared.cmp.Ordering.{Ordering}
use Rattle.std.specs.declared.cmp.Ordering.TheVariants.{Less, Equal, Greater}
use Rattle.std.specs.Ordering.{nat_cmp, is_lt}
use Rattle.std.specs.Cmp.Lexicographic.{slice_cmp, nat_list_cmp_total}
use Rattle.std.specs.List.{list_all}
use Rattle.std.specs.FinMap.{is_sorted, entries, entries_sorted}
use Rattle.std.specs.FinMap.Entries.{below_all}
use Rattle.std.specs.Prelude.{if◌then◌else◌}
use Rattle.std.specs.Str.{bytes_eq}
use Rattle.std.proofs.lemmas.Slice.Eq.{bytes_eq-Decides}
use Rattle.std.proofs.Common.{◌≡◌, ℕ, Bool, true, false, not, T, ◌&&◌, List, [], ◌∷◌, ◌++◌, Some, None, Option, refl, ap, ◌∙◌}
use Rattle.sha2.specs.Sha256.{sha256}
use Rattle.xdr_spec.specs.Format.{number32}
use Rattle.ledger_types.specs.Record.{record_format, ttl_format}
use Rattle.ledger_types.specs.declared.record.LedgerRecord.{LedgerRecord}
use Rattle.ledger_types.specs.declared.entry.LedgerEntryData.{LedgerEntryData}
use Rattle.ledger_types.specs.declared.entry.LedgerEntryData.TheVariants.{ContractData, ContractCode}
use Rattle.ledger_spec.specs.declared.Kept.{Kept}
use Rattle.ledger_spec.specs.declared.LedgerWhy.TheVariants as why
use Rattle.ledger_spec.specs.LedgerMap.{LedgerMap, IsKeptAt, HasCodeHash}
use Rattle.ledger_spec.specs.LedgerFile.{is_above, has_code_hash, record_key, kept_of, fault_of}
use Rattle.entry_map.specs.Entries.{last_key, is_last}

some_none : {A : Type 0} (a : A) → ◌≡◌ {A = Option A} (Some a) None → ⊥
some_none a e = cc

abbrev pub order : List ℕ → List ℕ → Ordering
order a b = slice_cmp nat_cmp a b

pub first_of_two : (a b : Bool) → (a && b) ≡ true → a ≡ true
first_of_two true b e = refl
first_of_two false b e = e

pub second_of_two : (a b : Bool) → (a && b) ≡ true → b ≡ true
second_of_two true b e = e
second_of_two false b e = cc

pub both_of_two : (a b : Bool) → a ≡ true → b ≡ true → (a && b) ≡ true
both_of_two true b p q = q
both_of_two false b p q = p

less_from : (o : Ordering) → is_lt o ≡ true → o ≡ Less
less_from Less e = refl
less_from Equal e = cc
less_from Greater e = cc

pub less_through : (a b c : List ℕ) → is_lt (order a b) ≡ true → is_lt (order b c) ≡ true → is_lt (order a c) ≡ true
less_through a b c p q = ap is_lt (nat_list_cmp_total.trans a b c (less_from (order a b) p) (less_from (order b c) q))

pub last_key-push : (es : List (List ℕ × Kept)) (e : List ℕ × Kept) → last_key (es ++ e ∷ []) ≡ Some e.0
last_key-push [] e = refl
last_key-push (x ∷ []) e = refl
last_key-push (x ∷ y ∷ es) e = last_key-push (y ∷ es) e

-- a key above the last of keys in order is above all of them
pub above_all : (es : List (List ℕ × Kept)) (key : List ℕ) → is_sorted order es ≡ true → is_above (last_key es) key ≡ true
    → list_all (λ e. is_lt (order e.0 key)) es ≡ true
above_all [] key s h = refl
above_all (x ∷ []) key s h = both_of_two (is_lt (order x.0 key)) true h refl
above_all (x ∷ y ∷ es) key s h =
    let rest : list_all (λ e. is_lt (order e.0 key)) (y ∷ es) ≡ true =
    above_all (y ∷ es) key (second_of_two (below_all order x.0 (y ∷ es)) (is_sorted order (y ∷ es)) s) h in
    let below : is_lt (order x.0 y.0) ≡ true =
    first_of_two (is_lt (order x.0 y.0)) (below_all order x.0 es) (first_of_two (below_all order x.0 (y ∷ es)) (is_sorted order (y ∷ es)) s) in
    let next : is_lt (order y.0 key) ≡ true = first_of_two (is_lt (order y.0 key)) (list_all (λ e. is_lt (order e.0 key)) es) rest in
    both_of_two (is_lt (order x.0 key)) (list_all (λ e. is_lt (order e.0 key)) (y ∷ es)) (less_through x.0 y.0 key below next) rest

-- what a key that is above the last, and has no other fault, is
pub record IsGood (before : Option (List ℕ)) (item : LedgerRecord) : Type 0 where
  pub above : is_above before (record_key item) ≡ true
  pub hashed : item.ttl.key_hash.0 ≡ sha256 (record_key item)
  pub coded : has_code_hash item.entry.data ≡ true

good_by : (before : Option (List ℕ)) (item : LedgerRecord) (a t c : Bool) → is_above before (record_key item) ≡ a → bytes_eq item.ttl.key_hash.0 (sha256 (record_key item)) ≡ t
    → has_code_hash item.entry.data ≡ c → (if not a then Some why.Order else if not t then Some why.TtlHash else if not c then Some why.CodeHash else None) ≡ None → IsGood before item
good_by before item true true true p h q e = record { above = p; hashed = (bytes_eq-Decides item.ttl.key_hash.0 (sha256 (record_key item))).0 h; coded = q }
good_by before item false t c p h q e = absurd (some_none why.Order e)
good_by before item true false c p h q e = absurd (some_none why.TtlHash e)
good_by before item true true false p h q e = absurd (some_none why.CodeHash e)

pub good : (before : Option (List ℕ)) (item : LedgerRecord) → fault_of before item ≡ None → IsGood before item
good before item e =
    good_by before item (is_above before (record_key item)) (bytes_eq item.ttl.key_hash.0 (sha256 (record_key item))) (has_code_hash item.entry.data) refl refl refl e

coded_by : (body : LedgerEntryData) → has_code_hash body ≡ true → HasCodeHash body
coded_by (ContractData entry) e = tt
coded_by (ContractCode entry) e = (bytes_eq-Decides entry.hash.0 (sha256 entry.code)).0 e

-- a record that has a spelling and is good is kept at the bytes of its key
pub kept_by : (before : Option (List ℕ)) (item : LedgerRecord) → record_format.fits item → fault_of before item ≡ None → IsKeptAt (record_key item) (kept_of item)
unfolding record_format ttl_format number32
kept_by before item fits e = record {
  fits = fits.0;
  numbered = fits.1.1;
  keyed = refl;
  hashed = coded_by item.entry.data (good before item e).coded;
}

-- ---- what calls say

pub is_true : (b : Bool) → T b → b ≡ true
is_true true h = refl
is_true false h = absurd h

-- a key above the last of a map comes after all of the map's keys
pub last_by : (m : LedgerMap) (item : LedgerRecord) (key : List ℕ) → key ≡ record_key item → fault_of (last_key (entries m)) item ≡ None → is_last m key ≡ true
last_by m item key is e =
    above_all (entries m) key (is_true (is_sorted order (entries m)) (entries_sorted m))
    (ap (is_above (last_key (entries m))) is ∙ (good (last_key (entries m)) item e).above)
