-- Bytes that spell no ledger's file, in terms of where RFC 4506 refuses them.
use Rattle.std.proofs.Common.{◌≡◌, ◌↔◌, ℕ, ◌+◌, Bool, true, false, not, List, [], ◌∷◌, Option, Some, None, Result, Ok, Err, refl, ap}
use Rattle.std.specs.Prelude.{◌&&◌, if◌then◌else◌}
use Rattle.xdr_spec.specs.Decoded.{decoded}
use Rattle.xdr_spec.specs.Format.{IsBytes}
use Rattle.xdr_spec.specs.Refusal.{Refuses}
use Rattle.xdr_spec.specs.declared.Why.{Why}
use Rattle.xdr_spec.specs.declared.XdrErr.{XdrErr}
use Rattle.xdr_spec.proofs.Lemmas.{decoded_refuses}
use Rattle.ledger_types.specs.File.{file_format, file_lawful}
use Rattle.ledger_types.specs.declared.file.LedgerFile.{LedgerFile}
use Rattle.ledger_types.specs.declared.header.Header.{Header}
use Rattle.ledger_types.specs.declared.record.LedgerRecord.{LedgerRecord}
use Rattle.ledger_spec.specs.LedgerFile.{can_run, as_map, fault_at, fault_of, first_fault, has_next, judged, judged_if, ledger_of, record_key, refusal}
use Rattle.ledger_spec.specs.LedgerMap.{LedgerMap}
use Rattle.ledger_spec.specs.declared.LedgerRefusal.{LedgerRefusal}
use Rattle.ledger_spec.specs.declared.LedgerWhy.{LedgerWhy}
use Rattle.ledger_spec.specs.declared.LedgerWhy.TheVariants as why
use Rattle.ledger_file.proofs.Judging.{refused_file}

-- ---- a file that was read is refused for other reasons

not_of_record : (order ttl code : Bool) → (if order then Some why.Order else if ttl then Some why.TtlHash else if code then Some why.CodeHash else None) ≡ Some why.Xdr → ⊥
not_of_record true ttl code h = cc
not_of_record false true code h = cc
not_of_record false false true h = cc
not_of_record false false false h = cc

abbrev reason_of : Option LedgerRefusal → LedgerWhy
reason_of None = why.Order
reason_of (Some found) = found.why

not_at : (number at : ℕ) (fault : Option LedgerWhy) (later : Option LedgerRefusal) → (fault ≡ Some why.Xdr → ⊥) → (later ≡ Some (refusal why.Xdr at) → ⊥) → fault_at number fault later ≡ Some (refusal why.Xdr at) → ⊥
not_at number at None later here after h = after h
not_at number at (Some reason) later here after h = here (ap Some (ap reason_of h))

not_of_records : (at number : ℕ) (before : Option (List ℕ)) (records : List LedgerRecord) → first_fault number before records ≡ Some (refusal why.Xdr at) → ⊥
not_of_records at number before [] h = cc
not_of_records at number before (entry ∷ rest) h =
    not_at number at (fault_of before entry) (first_fault (number + 1) (Some (record_key entry)) rest) (not_of_record _ _ _) (not_of_records at (number + 1) (Some (record_key entry)) rest) h

abbrev refusal_in : Result (Header × LedgerMap) LedgerRefusal → Option LedgerRefusal
refusal_in (Ok ledger) = None
refusal_in (Err found) = Some found

not_as_map : (file : LedgerFile) (found : Option LedgerRefusal) (at : ℕ) → (found ≡ Some (refusal why.Xdr at) → ⊥) → as_map file found ≡ Err (refusal why.Xdr at) → ⊥
not_as_map file None at none h = cc
not_as_map file (Some found) at none h = none (ap refusal_in h)

not_of_header : (settings number : Bool) (records : Result (Header × LedgerMap) LedgerRefusal) (at : ℕ) → (records ≡ Err (refusal why.Xdr at) → ⊥)
    → (if settings then Err (refusal why.Settings 0) else if number then Err (refusal why.SeqEnd 0) else records) ≡ Err (refusal why.Xdr at) → ⊥
not_of_header true number records at none h = absurd (differ (ap reason_of (ap refusal_in h)))
  where
    differ : why.Settings ≡ why.Xdr → ⊥
    differ e = cc
not_of_header false true records at none h = absurd (differ (ap reason_of (ap refusal_in h)))
  where
    differ : why.SeqEnd ≡ why.Xdr → ⊥
    differ e = cc
not_of_header false false records at none h = none h

not_judged : (follows : Bool) (file : LedgerFile) (at : ℕ) → judged follows file ≡ Err (refusal why.Xdr at) → ⊥
not_judged follows file at h =
    not_of_header (not (can_run file.header)) (follows && not (has_next file.header)) (as_map file (first_fault 0 None file.records)) at
    (not_as_map file (first_fault 0 None file.records) at (not_of_records at 0 None file.records)) h

-- ---- so the reason Xdr says that it was not read

abbrev place_of : Option LedgerRefusal → ℕ
place_of None = 0
place_of (Some found) = found.at

not_read : (follows : Bool) (read : Result LedgerFile XdrErr) (at : ℕ) → judged_if follows read ≡ Err (refusal why.Xdr at) → (e : XdrErr) × (read ≡ Err e) × (e.at ≡ at)
not_read follows (Ok file) at h = absurd (not_judged follows file at h)
not_read follows (Err e) at h = (e, refl, ap place_of (ap refusal_in h))

pub xdr_refused : (follows : Bool) (bytes : List ℕ) (at : ℕ) → IsBytes bytes → (ledger_of follows bytes ≡ Err (refusal why.Xdr at)) ↔ ((reason : Why) × Refuses file_format bytes at reason)
xdr_refused follows bytes at fit = (
  λ h. let e = not_read follows (decoded file_format bytes) at h in
      let refuses : Refuses file_format bytes e.0.at e.0.why = decoded_refuses file_format file_lawful bytes fit e.0 e.1 in
      (e.0.why, rw e.2 at refuses),
  λ refuses. refused_file bytes (record { at = at; why = refuses.0 }) follows fit refuses.1,
)
