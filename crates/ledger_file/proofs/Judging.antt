-- What is read of a ledger's file.
use Rattle.std.specs.List.{AllByRecursion}
use Rattle.std.proofs.Common.{◌≡◌, ℕ, ◌<◌, ◌^◌, Bool, true, false, ◌&&◌, not, cond, List, length, Some, None, Ok, Err, Result, refl, sym, ap, ◌∙◌, arith}
use Rattle.xdr_spec.specs.declared.XdrErr.{XdrErr}
use Rattle.xdr_spec.specs.Format.{IsBytes, list, number32}
use Rattle.xdr_spec.specs.Refusal.{Spells, Refuses}
use Rattle.xdr_spec.specs.Decoded.{decoded}
use Rattle.xdr_spec.proofs.Lemmas.{decoded_refuses, decoded_spells, not_both, one_refusal, spells_decoded}
use Rattle.file_version.specs.FileVersion.{protocol_format}
use Rattle.ledger_types.specs.Header.{header_in, header_format}
use Rattle.ledger_types.specs.Record.{record_format}
use Rattle.ledger_types.specs.File.{file_format, file_lawful, rest_format}
use Rattle.file_version.specs.declared.version.FileVersion.{FileVersion}
use Rattle.file_version.specs.declared.version.FileVersion.TheVariants.{V1, V2}
use Rattle.ledger_types.specs.declared.record.LedgerRecord.{LedgerRecord}
use Rattle.ledger_types.specs.declared.header.Header.{Header}
use Rattle.ledger_types.specs.declared.file.LedgerFile.{LedgerFile}
use Rattle.ledger_spec.specs.declared.LedgerRefusal.{LedgerRefusal}
use Rattle.ledger_spec.specs.declared.LedgerWhy.TheVariants as why
use Rattle.ledger_spec.specs.LedgerMap.{LedgerMap}
use Rattle.ledger_spec.specs.LedgerFile.{are_settings, can_run, has_protocol, has_next, first_fault, map_of, as_map, judged_if, ledger_of, refusal}
use Rattle.ledger_file.specs.Rules.{header_refusal}
use Rattle.ledger_file.specs.Records.{IsFirstUnlessMemory}
use Rattle.ledger_file.specs.Reading.{IsRefusalUnlessMemory}
use Rattle.ledger_file.specs.declared.error.LedgerErr.{LedgerErr}
use Rattle.ledger_file.specs.declared.error.LedgerErr.TheVariants.{Refused, NoMemory}

-- ---- what is decoded

same_err : (e : XdrErr) (d : XdrErr) → d.at ≡ e.at → d.why ≡ e.why → ◌≡◌ {A = Result LedgerFile XdrErr} (Err d) (Err e)
same_err e d p q = λ i. Err (record { at = p i; why = q i })

refused_as : (bytes : List ℕ) (e : XdrErr) → IsBytes bytes → Refuses file_format bytes e.at e.why → (r : Result LedgerFile XdrErr)
    → decoded file_format bytes ≡ r → r ≡ Err e
refused_as bytes e fit h (Ok v) is =
    absurd (not_both file_format file_lawful bytes v e.at e.why (decoded_spells file_format file_lawful bytes fit v is) h)
refused_as bytes e fit h (Err d) is =
    let same = one_refusal file_format file_lawful bytes d.at e.at d.why e.why (decoded_refuses file_format file_lawful bytes fit d is) h in
    same_err e d same.0 same.1

-- bytes that are refused are no ledger's
pub refused_file : (bytes : List ℕ) (e : XdrErr) (follows : Bool) → IsBytes bytes → Refuses file_format bytes e.at e.why
    → ledger_of follows bytes ≡ Err (refusal why.Xdr e.at)
refused_file bytes e follows fit h = ap (judged_if follows) (refused_as bytes e fit h (decoded file_format bytes) refl)

pub file_decoded : (bytes : List ℕ) (file : LedgerFile) → Spells file_format file bytes → decoded file_format bytes ≡ Ok file
file_decoded bytes file s = spells_decoded file_format file_lawful file bytes s

-- ---- what a file's parts are

abbrev IsRest : FileVersion → LedgerFile → Type 0
IsRest version file = (rest_format version).fits file

rest_of : (file : LedgerFile) → file_format.fits file → IsRest file.version file
unfolding file_format
rest_of file h = h

-- the protocol of version 1 is a number of 32 bits too
protocol_fits : (version : FileVersion) (protocol : ℕ) → (protocol_format version).fits protocol → number32.fits protocol
unfolding number32
protocol_fits V1 protocol h = omega (arith, h)
protocol_fits V2 protocol h = h

header_in_fits : (version : FileVersion) (header : Header) → (header_in version).fits header → header_format.fits header
unfolding header_in
header_in_fits version header h = (h.0, (protocol_fits version header.protocol h.1.0, h.1.1))

rest_parts : (version : FileVersion) (file : LedgerFile) → IsRest version file
    → (header_in version).fits file.header × (list 4294967295 record_format).fits file.records
unfolding rest_format
rest_parts version file h = h.1

pub header_fits : (file : LedgerFile) → file_format.fits file → header_format.fits file.header
header_fits file h = header_in_fits file.version file.header (rest_parts file.version file (rest_of file h)).0

list_parts : (records : List LedgerRecord) → (list 4294967295 record_format).fits records
    → (length records < 2 ^ 32) × AllByRecursion record_format.fits records
unfolding list
list_parts records h = (h.1, h.2)

pub records_fit : (file : LedgerFile) → file_format.fits file → AllByRecursion record_format.fits file.records
records_fit file h = (list_parts file.records (rest_parts file.version file (rest_of file h)).1).1

pub records_few : (file : LedgerFile) → file_format.fits file → length file.records < 2 ^ 32
records_few file h = (list_parts file.records (rest_parts file.version file (rest_of file h)).1).0

-- a file of version 1 is of protocol 23
old_protocol : (version : FileVersion) (file : LedgerFile) → IsRest version file → version ≡ V1 → file.header.protocol ≡ 23
unfolding rest_format header_in
old_protocol V1 file h is = h.1.0.1.0
old_protocol V2 file h is = absurd (other is)
  where
    other : V2 ≡ V1 → ⊥
    other e = cc

pub protocol_of_old : (file : LedgerFile) → file_format.fits file → file.version ≡ V1 → file.header.protocol ≡ 23
protocol_of_old file h is = old_protocol file.version file (rest_of file h) is

-- ---- what is judged

by_header : (s n f : Bool) (file : LedgerFile) (r : Result (Header × LedgerMap) LedgerRefusal) (e : LedgerRefusal)
    → cond (not s) (Some (refusal why.Settings 0)) (cond (f && not n) (Some (refusal why.SeqEnd 0)) None) ≡ Some e
    → cond (not s) (Err (refusal why.Settings 0)) (cond (f && not n) (Err (refusal why.SeqEnd 0)) r) ≡ Err e
by_header true true true file r e h = cc
by_header true true false file r e h = cc
by_header true false true file r e h = cc
by_header true false false file r e h = cc
by_header false n f file r e h = cc

past_header : (s n f : Bool) (r : Result (Header × LedgerMap) LedgerRefusal)
    → cond (not s) (Some (refusal why.Settings 0)) (cond (f && not n) (Some (refusal why.SeqEnd 0)) None) ≡ None
    → cond (not s) (Err (refusal why.Settings 0)) (cond (f && not n) (Err (refusal why.SeqEnd 0)) r) ≡ r
past_header true true true r h = refl
past_header true true false r h = refl
past_header true false true r h = cc
past_header true false false r h = refl
past_header false n f r h = cc

-- a header that is refused
pub refused_header : (follows : Bool) (bytes : List ℕ) (file : LedgerFile) (e : LedgerRefusal) → decoded file_format bytes ≡ Ok file
    → header_refusal follows file.header ≡ Some e → ledger_of follows bytes ≡ Err e
refused_header follows bytes file e d h =
    ap (judged_if follows) d
    ∙ by_header (can_run file.header) (has_next file.header) follows file (as_map file (first_fault 0 None file.records)) e h

-- a header that is not refused leaves it to the records
pub left_to_records : (follows : Bool) (bytes : List ℕ) (file : LedgerFile) → decoded file_format bytes ≡ Ok file
    → header_refusal follows file.header ≡ None → ledger_of follows bytes ≡ as_map file (first_fault 0 None file.records)
left_to_records follows bytes file d h =
    ap (judged_if follows) d
    ∙ past_header (can_run file.header) (has_next file.header) follows (as_map file (first_fault 0 None file.records)) h

-- a record that is at fault
pub refused_records : (follows : Bool) (bytes : List ℕ) (file : LedgerFile) (e : LedgerErr) → decoded file_format bytes ≡ Ok file
    → header_refusal follows file.header ≡ None → IsFirstUnlessMemory (first_fault 0 None file.records) e
    → IsRefusalUnlessMemory (ledger_of follows bytes) e
refused_records follows bytes file (Refused r) d h f = left_to_records follows bytes file d h ∙ ap (as_map file) f
refused_records follows bytes file NoMemory d h f = tt

-- no record at fault
pub whole_ledger : (follows : Bool) (bytes : List ℕ) (file : LedgerFile) (m : LedgerMap) → decoded file_format bytes ≡ Ok file
    → header_refusal follows file.header ≡ None → first_fault 0 None file.records ≡ None → m ≡ map_of file.records
    → ledger_of follows bytes ≡ Ok (file.header, m)
whole_ledger follows bytes file m d h f is =
    left_to_records follows bytes file d h ∙ ap (as_map file) f ∙ ap (λ (x : LedgerMap). Ok (file.header, x)) (sym is)

-- a header that is not refused can be run on, and can be followed if that was asked
can_be : (p s n f : Bool) → cond (not (p && s)) (Some (refusal why.Settings 0)) (cond (f && not n) (Some (refusal why.SeqEnd 0)) None) ≡ None
    → (p ≡ true) × (s ≡ true) × (f ≡ true → n ≡ true)
can_be true true true f h = (refl, refl, λ _. refl)
can_be true true false true h = cc
can_be true true false false h = (refl, refl, λ e. absurd (not_true e))
  where
    not_true : false ≡ true → ⊥
    not_true e = cc
can_be true false n f h = cc
can_be false s n f h = cc

pub not_refused : (follows : Bool) (header : Header) → header_refusal follows header ≡ None
    → (has_protocol header ≡ true) × (are_settings header.settings ≡ true) × (follows ≡ true → has_next header ≡ true)
not_refused follows header h = can_be (has_protocol header) (are_settings header.settings) (has_next header) follows h
