-- The records of a file and their entries in the map (own).
use Rattle.std.specs.Prelude.{◌≡◌, ℕ, List, Option, Some}
use Rattle.ledger_types.specs.Entry.{key_of}
use Rattle.ledger_types.specs.Record.{record_format}
use Rattle.ledger_types.specs.declared.record.LedgerRecord.{LedgerRecord}
use Rattle.ledger_spec.specs.LedgerFile.{record_key, record_of, kept_of, refusal}
use Rattle.ledger_spec.specs.LedgerMap.{key_bytes, IsKeptAt}
use Rattle.ledger_spec.specs.declared.Kept.{Kept}
use Rattle.ledger_spec.specs.declared.LedgerWhy.{LedgerWhy}
use Rattle.ledger_spec.specs.declared.LedgerRefusal.{LedgerRefusal}
use Rattle.ledger_file.specs.declared.error.LedgerErr.{LedgerErr}
use Rattle.ledger_file.specs.declared.error.LedgerErr.TheVariants.{Refused, NoMemory}

-- the map's entry of a record, with the bytes of its key
abbrev pub pair_of : LedgerRecord → List ℕ × Kept
pair_of entry = (record_key entry, kept_of entry)

-- the record at this index has this fault, unless memory ran out
abbrev pub IsFaultUnlessMemory : ℕ → Option LedgerWhy → LedgerErr → Type 0
IsFaultUnlessMemory at fault (Refused r) = (reason : LedgerWhy) × (fault ≡ Some reason) × (r ≡ refusal reason at)
IsFaultUnlessMemory at fault NoMemory = Unit {0}

-- this is the first fault of the records, unless memory ran out
abbrev pub IsFirstUnlessMemory : Option LedgerRefusal → LedgerErr → Type 0
IsFirstUnlessMemory found (Refused r) = found ≡ Some r
IsFirstUnlessMemory found NoMemory = Unit {0}

-- an entry of a ledger's map, at its own key
abbrev pub IsKept : Kept → Type 0
IsKept kept = IsKeptAt (key_bytes (key_of kept.entry)) kept

-- the bytes of the record of a map's entry
abbrev pub record_bytes : List ℕ × Kept → List ℕ
record_bytes e = record_format.spell (record_of e.1)
