-- The lines of a value and of a ledger (own; values, keys and entries are those of the Stellar XDR files).
use Rattle.std.specs.Prelude.{ℕ, List, ◌++◌, length, codes, decimal}
use Rattle.std.specs.FinMap.{entries, len}
use Rattle.std.specs.List.{flat_map}
use Rattle.hex.specs.Hex.{encode_lower}
use Rattle.sha2.specs.Sha256.{sha256}
use Rattle.ledger_spec.specs.LedgerMap.{LedgerMap}
use Rattle.ledger_spec.specs.declared.Kept.{Kept}
use Rattle.ledger_types.specs.declared.header.Header.{Header}
use Rattle.value_types.specs.Depth.{value_depth}
use Rattle.value_types.specs.Formats.{kind, scval_format}
use Rattle.value_types.specs.Kinds.{number}
use Rattle.value_types.specs.declared.value.ScVal.{ScVal}

-- the number of its type, the length of its spelling in bytes, and its depth
abbrev pub value_line : ScVal → List ℕ
value_line value =
    codes "type " ++ decimal (number (kind value)) ++ codes " size " ++ decimal (length (scval_format.spell value))
    ++ codes " depth " ++ decimal (value_depth value) ++ codes "\n"

-- the ledger's number, its close time, and the number of its entries
abbrev pub header_line : Header → ℕ → List ℕ
header_line header records =
    codes "seq " ++ decimal header.seq ++ codes " time " ++ decimal header.close_time ++ codes " records " ++ decimal records
    ++ codes "\n"

-- of an entry with the XDR bytes of its key: the hash of the key, and the live-until ledger
abbrev pub record_line : List ℕ × Kept → List ℕ
record_line e = encode_lower (sha256 e.0) ++ codes " " ++ decimal e.1.live_until ++ codes "\n"

-- the lines of a ledger, entry after entry in the order of the keys' bytes
abbrev pub ledger_lines : Header → LedgerMap → List ℕ
ledger_lines header map = header_line header (len map) ++ flat_map record_line (entries map)
