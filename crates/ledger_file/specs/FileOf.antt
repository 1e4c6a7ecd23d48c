-- What a ledger file is, in terms of its header and its map (own).
use Rattle.std.specs.Prelude.{◌≡◌, ℕ, Bool, List, IsTrue, ◌⊎◌}
use Rattle.ledger_types.specs.Header.{header_format}
use Rattle.ledger_types.specs.declared.header.Header.{Header}
use Rattle.file_version.specs.declared.version.FileVersion.TheVariants.{V1, V2}
use Rattle.ledger_spec.specs.LedgerMap.{LedgerMap, IsLedgerMap}
use Rattle.ledger_spec.specs.LedgerFile.{has_protocol, are_settings, has_next, bytes_in}

-- the bytes are the version 2 file of this header and this map; or they are its version 1 file, and the protocol is 23
abbrev pub IsSpelled : List ℕ → Header → LedgerMap → Type 0
IsSpelled bytes header entries =
    (bytes ≡ bytes_in V2 header entries) ⊎ ((header.protocol ≡ 23) × (bytes ≡ bytes_in V1 header entries))

-- the bytes are a file of this header and this map, and if `follows` is true, another ledger may follow
pub record IsFileOf (follows : Bool) (bytes : List ℕ) (header : Header) (entries : LedgerMap) : Type 0 where
  pub spelled : IsSpelled bytes header entries
  pub fits : header_format.fits header
  pub is_map : IsLedgerMap entries
  pub protocol : IsTrue (has_protocol header)
  pub settings : IsTrue (are_settings header.settings)
  pub next : IsTrue follows → IsTrue (has_next header)
