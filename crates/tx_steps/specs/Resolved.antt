-- Keys that were looked up before (own).
use Rattle.std.specs.Prelude.{◌≡◌}
use Rattle.std.specs.Option.{option_map}
use Rattle.ledger_types.specs.Key.{key_format}
use Rattle.ledger_spec.specs.LedgerMap.{LedgerMap, IsLedgerMap, find}
use Rattle.entry_lookup.specs.Found.{kept_of}
use Rattle.tx_steps.specs.declared.resolved.Looked.{Looked}

-- what was found at a key is what the map of a ledger has there
pub record IsRight (map : LedgerMap) (row : Looked) : Type 0 where
  pub fits : key_format.fits row.key.now
  pub found : option_map kept_of row.found ≡ find map row.key.now
  pub whole : IsLedgerMap map
