-- The file of a ledger (own): a version, a header and one record for each entry, sorted by the keys' XDR bytes.
use Rattle.std.specs.Prelude.{ℕ, ◌+◌, Bool, true, ◌&&◌, not, List, [], ◌∷◌, map, Option, Some, None, Result, Ok, Err, nat_lt}
use Rattle.std.specs.Prelude.{nat_le, if◌then◌else◌}
use Rattle.std.specs.Ordering.{is_lt, nat_cmp}
use Rattle.std.specs.FinMap.{from_sorted, values}
use Rattle.std.specs.Cmp.Lexicographic.{slice_cmp}
use Rattle.std.specs.Str.{bytes_eq}
use Rattle.sha2.specs.Sha256.{sha256}
use Rattle.xdr_spec.specs.declared.XdrErr.{XdrErr}
use Rattle.xdr_spec.specs.Decoded.{decoded}
use Rattle.ledger_types.specs.Entry.{key_of}
use Rattle.ledger_types.specs.File.{file_format}
use Rattle.ledger_types.specs.declared.entry.LedgerEntryData.{LedgerEntryData}
use Rattle.ledger_types.specs.declared.entry.LedgerEntryData.TheVariants.{ContractData, ContractCode}
use Rattle.ledger_types.specs.declared.record.LedgerRecord.{LedgerRecord}
use Rattle.ledger_types.specs.declared.file.LedgerFile.{LedgerFile}
use Rattle.ledger_types.specs.FileVersion.{FileVersion}
use Rattle.ledger_types.specs.FileVersion.TheVariants.{V2}
use Rattle.ledger_types.specs.declared.header.Settings.{Settings}
use Rattle.ledger_types.specs.declared.header.Header.{Header}
use Rattle.ledger_spec.specs.declared.Kept.{Kept}
use Rattle.ledger_spec.specs.declared.LedgerWhy.{LedgerWhy}
use Rattle.ledger_spec.specs.declared.LedgerWhy.TheVariants as why
use Rattle.ledger_spec.specs.declared.LedgerRefusal.{LedgerRefusal}
use Rattle.ledger_spec.specs.LedgerMap.{LedgerMap, key_bytes}

-- ---- writing

-- the record of an entry: the entry, the hash of its key, and its live-until ledger
abbrev pub record_of : Kept → LedgerRecord
record_of kept = record {
  entry = kept.entry;
  ttl = record { key_hash = record { 0 = sha256 (key_bytes (key_of kept.entry)) }; live_until_ledger_seq = kept.live_until };
}

-- a ledger's file of this version: its header, and its records sorted by the keys' bytes
abbrev pub file_of : FileVersion → Header → LedgerMap → LedgerFile
file_of version header entries = record { version = version; header = header; records = map record_of (values entries) }

-- the bytes of a ledger's file of this version
abbrev pub bytes_in : FileVersion → Header → LedgerMap → List ℕ
bytes_in version header entries = file_format.spell (file_of version header entries)

-- The bytes of a ledger's file. Only version 2 is written.
abbrev pub ledger_bytes : Header → LedgerMap → List ℕ
ledger_bytes header entries = bytes_in V2 header entries

-- ---- reading

-- a minimum TTL is from 1 to the maximum TTL
abbrev pub is_life : Settings → ℕ → Bool
is_life settings life = nat_le 1 life && nat_le life settings.max_entry_ttl

-- Both minimum TTLs are from 1 to the maximum TTL, which is bounded. The constant cost of an instruction is not 0.
abbrev pub are_settings : Settings → Bool
are_settings settings =
    is_life settings settings.min_temporary_ttl && is_life settings settings.min_persistent_ttl
    && nat_le settings.max_entry_ttl 200000000 && nat_le 1 settings.terms.wasm_insn_exec.instructions.constant

-- this program runs the ledgers of protocol 23 and later
abbrev pub has_protocol : Header → Bool
has_protocol header = nat_le 23 header.protocol

-- the header is that of a ledger that this program can run on
abbrev pub can_run : Header → Bool
can_run header = has_protocol header && are_settings header.settings

-- another ledger may follow this one
abbrev pub has_next : Header → Bool
has_next header = nat_lt header.seq 4000000000

-- the key is above the one before it
abbrev pub is_above : Option (List ℕ) → List ℕ → Bool
is_above None key = true
is_above (Some before) key = is_lt (slice_cmp nat_cmp before key)

-- the hash of a code entry is the SHA-256 of its code
abbrev pub has_code_hash : LedgerEntryData → Bool
has_code_hash (ContractData entry) = true
has_code_hash (ContractCode entry) = bytes_eq entry.hash.0 (sha256 entry.code)

-- the bytes of a record's key
abbrev pub record_key : LedgerRecord → List ℕ
record_key entry = key_bytes (key_of entry.entry)

-- the first fault of a record, given the key before it
abbrev pub fault_of : Option (List ℕ) → LedgerRecord → Option LedgerWhy
fault_of before entry =
    if not (is_above before (record_key entry)) then Some why.Order
    else if not (bytes_eq entry.ttl.key_hash.0 (sha256 (record_key entry))) then Some why.TtlHash
    else if not (has_code_hash entry.entry.data) then Some why.CodeHash
    else None

-- a refusal for this reason at this index or offset
abbrev pub refusal : LedgerWhy → ℕ → LedgerRefusal
refusal reason at = record { why = reason; at = at }

-- a record's own fault comes before the faults of later records
abbrev pub fault_at : ℕ → Option LedgerWhy → Option LedgerRefusal → Option LedgerRefusal
fault_at at None later = later
fault_at at (Some reason) later = Some (refusal reason at)

-- the first fault of records, the first of which has this index
abbrev pub first_fault : ℕ → Option (List ℕ) → List LedgerRecord → Option LedgerRefusal
first_fault at before [] = None
first_fault at before (entry ∷ rest) =
    fault_at at (fault_of before entry) (first_fault (at + 1) (Some (record_key entry)) rest)

-- the entry of a record with its live-until ledger
abbrev pub kept_of : LedgerRecord → Kept
kept_of entry = record { entry = entry.entry; live_until = entry.ttl.live_until_ledger_seq }

-- the map of sorted records
abbrev pub map_of : List LedgerRecord → LedgerMap
map_of records = from_sorted (map (λ entry. (record_key entry, kept_of entry)) records)

-- the header and the map, unless a record is at fault
abbrev pub as_map : LedgerFile → Option LedgerRefusal → Result (Header × LedgerMap) LedgerRefusal
as_map file None = Ok (file.header, map_of file.records)
as_map file (Some found) = Err found

-- The protocol and the settings are tested first. If `follows` asks that another ledger may follow, the ledger's number comes
-- next. Then the records are tested one by one.
abbrev pub judged : Bool → LedgerFile → Result (Header × LedgerMap) LedgerRefusal
judged follows file =
    if not (can_run file.header) then Err (refusal why.Settings 0)
    else if follows && not (has_next file.header) then Err (refusal why.SeqEnd 0)
    else as_map file (first_fault 0 None file.records)

-- the same for a file that was decoded, unless decoding failed
abbrev pub judged_if : Bool → Result LedgerFile XdrErr → Result (Header × LedgerMap) LedgerRefusal
judged_if follows (Ok file) = judged follows file
judged_if follows (Err e) = Err (refusal why.Xdr e.at)

-- The header and the map of a file, or why it is rejected. All of its bytes are decoded first.
abbrev pub ledger_of : Bool → List ℕ → Result (Header × LedgerMap) LedgerRefusal
ledger_of follows bytes = judged_if follows (decoded file_format bytes)
