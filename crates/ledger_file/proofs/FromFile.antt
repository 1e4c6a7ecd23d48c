-- What a file that is read as a ledger is.
use Rattle.std.specs.Prelude.{All}
use Rattle.std.specs.Ordering.{is_lt}
use Rattle.std.specs.List.{AllByRecursion}
use Rattle.std.specs.FinMap.{is_sorted, entries, entries-from_sorted, len-entries, values}
use Rattle.std.specs.FinMap.Entries.{below_all}
use Rattle.std.proofs.lemmas.List.{length-map}
use Rattle.std.proofs.Common.{◌≡◌, ℕ, zero, suc, ◌+◌, Bool, true, false, not, ◌&&◌, cond, T, List, [], ◌∷◌, length, map, Some, None, Option, Ok, Err, Result, refl, sym, ap, subst, ◌∙◌, inl, inr, arith}
use Rattle.sha2.specs.Sha256.{sha256}
use Rattle.xdr_spec.specs.declared.XdrErr.{XdrErr}
use Rattle.xdr_spec.specs.Format.{IsBytes}
use Rattle.xdr_spec.specs.Refusal.{Spells}
use Rattle.xdr_spec.specs.Decoded.{decoded}
use Rattle.xdr_spec.proofs.Lemmas.{decoded_spells}
use Rattle.ledger_types.specs.Record.{record_format}
use Rattle.ledger_types.specs.File.{file_format, file_lawful}
use Rattle.file_version.specs.declared.version.FileVersion.{FileVersion}
use Rattle.file_version.specs.declared.version.FileVersion.TheVariants.{V1, V2}
use Rattle.ledger_types.specs.declared.header.Header.{Header}
use Rattle.ledger_types.specs.declared.file.LedgerFile.{LedgerFile}
use Rattle.ledger_types.specs.declared.record.LedgerRecord.{LedgerRecord}
use Rattle.ledger_spec.specs.declared.Kept.{Kept}
use Rattle.ledger_spec.specs.declared.LedgerWhy.{LedgerWhy}
use Rattle.ledger_spec.specs.declared.LedgerWhy.TheVariants as why
use Rattle.ledger_spec.specs.declared.LedgerRefusal.{LedgerRefusal}
use Rattle.ledger_spec.specs.LedgerMap.{LedgerMap, IsKeptAt}
use Rattle.ledger_spec.specs.LedgerFile.{record_of, can_run, has_protocol, are_settings, has_next, bytes_in, record_key, fault_of, fault_at, first_fault, kept_of, map_of, as_map, judged_if, ledger_of, refusal}
use Rattle.ledger_file.specs.Records.{pair_of}
use Rattle.ledger_file.specs.FileOf.{IsFileOf, IsSpelled}
use Rattle.ledger_file.proofs.Keys.{order, less_through, first_of_two, second_of_two, both_of_two, good, kept_by}
use Rattle.ledger_file.proofs.Judging.{header_fits, records_fit, records_few, protocol_of_old}

-- ---- records of which none is at fault

abbrev pub AreGood : Option (List ℕ) → List LedgerRecord → Type 0
AreGood before [] = Unit {0}
AreGood before (r ∷ rs) = (fault_of before r ≡ None) × AreGood (Some (record_key r)) rs

no_fault : (at : ℕ) (f : Option LedgerWhy) (later : Option LedgerRefusal) → fault_at at f later ≡ None → (f ≡ None) × (later ≡ None)
no_fault at None later e = (refl, e)
no_fault at (Some reason) later e = cc

are_good : (at : ℕ) (before : Option (List ℕ)) (rs : List LedgerRecord) → first_fault at before rs ≡ None → AreGood before rs
are_good at before [] e = tt
are_good at before (r ∷ rs) e =
    let both = no_fault at (fault_of before r) (first_fault (at + 1) (Some (record_key r)) rs) e in
    (both.0, are_good (at + 1) (Some (record_key r)) rs both.1)

below_through : (k l : List ℕ) (es : List (List ℕ × Kept)) → is_lt (order k l) ≡ true → below_all order l es ≡ true → below_all order k es ≡ true
below_through k l [] lt h = refl
below_through k l (e ∷ es) lt h =
    both_of_two (is_lt (order k e.0)) (below_all order k es)
    (less_through k l e.0 lt (first_of_two (is_lt (order l e.0)) (below_all order l es) h))
    (below_through k l es lt (second_of_two (is_lt (order l e.0)) (below_all order l es) h))

below_good : (k : List ℕ) (rs : List LedgerRecord) → AreGood (Some k) rs → below_all order k (map pair_of rs) ≡ true
below_good k [] h = refl
below_good k (r ∷ rs) h =
    let lt : is_lt (order k (record_key r)) ≡ true = (good (Some k) r h.0).above in
    both_of_two (is_lt (order k (record_key r))) (below_all order k (map pair_of rs)) lt (below_through k (record_key r) (map pair_of rs) lt (below_good (record_key r) rs h.1))

sorted_good : (before : Option (List ℕ)) (rs : List LedgerRecord) → AreGood before rs → is_sorted order (map pair_of rs) ≡ true
sorted_good before [] h = refl
sorted_good before (r ∷ rs) h =
    both_of_two (below_all order (record_key r) (map pair_of rs)) (is_sorted order (map pair_of rs)) (below_good (record_key r) rs h.1) (sorted_good (Some (record_key r)) rs h.1)

-- ---- records made again

made_again : (before : Option (List ℕ)) (r : LedgerRecord) → fault_of before r ≡ None → record_of (kept_of r) ≡ r
made_again before r e =
    let p : sha256 (record_key r) ≡ r.ttl.key_hash.0 = sym (good before r e).hashed in
    λ i. record { entry = r.entry; ttl = record { key_hash = record { 0 = p i }; live_until_ledger_seq = r.ttl.live_until_ledger_seq } }

cons_is : (r q : LedgerRecord) (rs qs : List LedgerRecord) → r ≡ q → rs ≡ qs → r ∷ rs ≡ q ∷ qs
cons_is r q rs qs p e = cc

all_made_again : (before : Option (List ℕ)) (rs : List LedgerRecord) → AreGood before rs → map record_of (map (λ (e : List ℕ × Kept). e.1) (map pair_of rs)) ≡ rs
all_made_again before [] h = refl
all_made_again before (r ∷ rs) h =
    cons_is (record_of (kept_of r)) r (map record_of (map (λ (e : List ℕ × Kept). e.1) (map pair_of rs))) rs (made_again before r h.0) (all_made_again (Some (record_key r)) rs h.1)

all_kept : (before : Option (List ℕ)) (rs : List LedgerRecord) → AllByRecursion record_format.fits rs → AreGood before rs → All (λ e. IsKeptAt e.0 e.1) (map pair_of rs)
all_kept before [] fits h k d lt = absurd (omega arith)
all_kept before (r ∷ rs) fits h zero d lt = kept_by before r fits.0 h.0
all_kept before (r ∷ rs) fits h (suc k) d lt = all_kept (Some (record_key r)) rs fits.1 h.1 k d (omega arith)

-- ---- the file

is_T : (b : Bool) → b ≡ true → T b
is_T true e = tt
is_T false e = cc

spelled_by : (version : FileVersion) (bytes : List ℕ) (header : Header) (m : LedgerMap) → bytes ≡ bytes_in version header m
    → (version ≡ V1 → header.protocol ≡ 23) → IsSpelled bytes header m
spelled_by V1 bytes header m is old = inr (old refl, is)
spelled_by V2 bytes header m is old = inl is

of_file : (follows : Bool) (bytes : List ℕ) (file : LedgerFile) → Spells file_format file bytes → can_run file.header ≡ true
    → (follows ≡ true → has_next file.header ≡ true) → AreGood None file.records → IsFileOf follows bytes file.header (map_of file.records)
of_file follows bytes file s runs next h =
    let es : entries (map_of file.records) ≡ map pair_of file.records =
    entries-from_sorted order (map pair_of file.records) (is_T (is_sorted order (map pair_of file.records)) (sorted_good None file.records h)) in
    let again : map record_of (values (map_of file.records)) ≡ file.records =
    ap (λ (x : List (List ℕ × Kept)). map record_of (map (λ (e : List ℕ × Kept). e.1) x)) es ∙ all_made_again None file.records h in
    record {
      spelled = spelled_by file.version bytes file.header (map_of file.records)
          (s.bytes-is ∙ ap (λ (rs : List LedgerRecord). file_format.spell (record { version = file.version; header = file.header; records = rs })) (sym again))
          (protocol_of_old file s.fits);
      fits = header_fits file s.fits;
      is_map = record {
        each = subst (λ (x : List (List ℕ × Kept)). All (λ e. IsKeptAt e.0 e.1) x) (sym es) (all_kept None file.records (records_fit file s.fits) h);
        few = omega (arith, len-entries (map_of file.records), ap length es, length-map file.records pair_of, records_few file s.fits);
      };
      protocol = first_of_two (has_protocol file.header) (are_settings file.header.settings) runs;
      settings = second_of_two (has_protocol file.header) (are_settings file.header.settings) runs;
      next = next;
    }

-- what the answer of the judge says
pub record Answers (follows : Bool) (file : LedgerFile) (header : Header) (m : LedgerMap) : Type 0 where
  pub runs : can_run file.header ≡ true
  pub next : follows ≡ true → has_next file.header ≡ true
  pub none : first_fault 0 None file.records ≡ None
  pub header-is : file.header ≡ header
  pub map-is : map_of file.records ≡ m

ok_pair : (h k : Header) (m n : LedgerMap) → ◌≡◌ {A = Result (Header × LedgerMap) LedgerRefusal} (Ok (h, m)) (Ok (k, n)) → (h ≡ k) × (m ≡ n)
ok_pair h k m n e = let both : ◌≡◌ {A = Header × LedgerMap} (h, m) (k, n) = cc in (ap (λ (p : Header × LedgerMap). p.0) both, ap (λ (p : Header × LedgerMap). p.1) both)

err_not_ok : (e : LedgerRefusal) (p : Header × LedgerMap) → ◌≡◌ {A = Result (Header × LedgerMap) LedgerRefusal} (Err e) (Ok p) → ⊥
err_not_ok e p h = cc

answers_map : (follows : Bool) (file : LedgerFile) (header : Header) (m : LedgerMap) (f : Option LedgerRefusal) → can_run file.header ≡ true
    → (follows ≡ true → has_next file.header ≡ true) → first_fault 0 None file.records ≡ f → as_map file f ≡ Ok (header, m) → Answers follows file header m
answers_map follows file header m None runs next none e =
    let both = ok_pair file.header header (map_of file.records) m e in
    record { runs = runs; next = next; none = none; header-is = both.0; map-is = both.1 }
answers_map follows file header m (Some r) runs next none e = absurd (err_not_ok r (header, m) e)

answers_by : (follows : Bool) (file : LedgerFile) (header : Header) (m : LedgerMap) (s n f : Bool) → can_run file.header ≡ s → has_next file.header ≡ n → follows ≡ f
    → cond (not s) (Err (refusal why.Settings 0)) (cond (f && not n) (Err (refusal why.SeqEnd 0)) (as_map file (first_fault 0 None file.records))) ≡ Ok (header, m)
    → Answers follows file header m
answers_by follows file header m true true true p q r e = answers_map follows file header m (first_fault 0 None file.records) p (λ _. q) refl e
answers_by follows file header m true true false p q r e = answers_map follows file header m (first_fault 0 None file.records) p (λ _. q) refl e
answers_by follows file header m true false false p q r e =
    answers_map follows file header m (first_fault 0 None file.records) p (λ is. absurd (not_true follows r is)) refl e
  where
    not_true : (b : Bool) → b ≡ false → b ≡ true → ⊥
    not_true b x y = cc
answers_by follows file header m true false true p q r e = absurd (err_not_ok (refusal why.SeqEnd 0) (header, m) e)
answers_by follows file header m false n f p q r e = absurd (err_not_ok (refusal why.Settings 0) (header, m) e)

from_decoded : (follows : Bool) (bytes : List ℕ) (header : Header) (m : LedgerMap) → IsBytes bytes → (r : Result LedgerFile XdrErr)
    → decoded file_format bytes ≡ r → judged_if follows r ≡ Ok (header, m) → IsFileOf follows bytes header m
from_decoded follows bytes header m fit (Ok file) d e =
    let a = answers_by follows file header m (can_run file.header) (has_next file.header) follows refl refl refl e in
    let s = decoded_spells file_format file_lawful bytes fit file d in
    subst (λ (h : Header). IsFileOf follows bytes h m) a.header-is
    (subst (λ (n : LedgerMap). IsFileOf follows bytes file.header n) a.map-is (of_file follows bytes file s a.runs a.next (are_good 0 None file.records a.none)))
from_decoded follows bytes header m fit (Err x) d e = absurd (err_not_ok (refusal why.Xdr x.at) (header, m) e)

pub file_read : (follows : Bool) (bytes : List ℕ) (header : Header) (m : LedgerMap) → IsBytes bytes → ledger_of follows bytes ≡ Ok (header, m) → IsFileOf follows bytes header m
file_read follows bytes header m fit e = from_decoded follows bytes header m fit (decoded file_format bytes) refl e
