-- A ledger's file, as it is written.
use Rattle.std.specs.Int.{w32, to_be_bytes}
use Rattle.std.specs.List.{flat_map}
use Rattle.std.specs.FinMap.{entries, values, len, len-entries}
use Rattle.std.proofs.lemmas.List.{length-map}
use Rattle.std.proofs.lemmas.List.Folds.{flat_map-map}
use Rattle.std.proofs.lemmas.Simd.{map-map}
use Rattle.std.proofs.Common.{◌≡◌, ℕ, List, ◌++◌, length, map, refl, sym, ap, ◌∙◌}
use Rattle.xdr_spec.specs.Format.{list}
use Rattle.ledger_types.specs.Header.{header_format}
use Rattle.ledger_types.specs.Record.{record_format}
use Rattle.ledger_types.specs.File.{file_format, rest_format}
use Rattle.ledger_types.specs.declared.header.Header.{Header}
use Rattle.ledger_types.specs.declared.record.LedgerRecord.{LedgerRecord}
use Rattle.ledger_spec.specs.declared.Kept.{Kept}
use Rattle.ledger_spec.specs.LedgerMap.{LedgerMap}
use Rattle.ledger_spec.specs.LedgerFile.{record_of, ledger_bytes}
use Rattle.ledger_file.specs.Records.{record_bytes}

abbrev whole : Header → List LedgerRecord → List ℕ
whole header records =
    to_be_bytes w32 2 ++ (header_format.spell header ++ (to_be_bytes w32 (length records) ++ flat_map record_format.spell records))

spelled_whole : (header : Header) (m : LedgerMap) → ledger_bytes header m ≡ whole header (map record_of (values m))
unfolding file_format rest_format list
spelled_whole header m = refl

abbrev record_in : List ℕ × Kept → LedgerRecord
record_in e = record_of e.1

-- what is written is the file
pub file_written : (header : Header) (m : LedgerMap) (n : ℕ) → n ≡ len m
    → to_be_bytes w32 2 ++ (header_format.spell header ++ (to_be_bytes w32 n ++ flat_map record_bytes (entries m))) ≡ ledger_bytes header m
file_written header m n e =
    let records : map record_of (values m) ≡ map record_in (entries m) = map-map record_of (λ (x : List ℕ × Kept). x.1) (entries m) in
    let tail : to_be_bytes w32 n ++ flat_map record_bytes (entries m)
    ≡ to_be_bytes w32 (length (map record_of (values m))) ++ flat_map record_format.spell (map record_of (values m)) =
    rw (records, e ∙ len-entries m, length-map (entries m) record_in, flat_map-map record_format.spell record_in (entries m)) refl in
    ap (λ (t : List ℕ). to_be_bytes w32 2 ++ (header_format.spell header ++ t)) tail ∙ sym (spelled_whole header m)
