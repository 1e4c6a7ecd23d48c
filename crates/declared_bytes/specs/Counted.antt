-- What counts of the entries at declared keys (own).
use Rattle.std.specs.Prelude.{ℕ, Bool, List, filter, IfSome}
use Rattle.ledger_types.specs.Key.{key_format}
use Rattle.ledger_types.specs.declared.key.LedgerKey.{LedgerKey}
use Rattle.tx_xdr.specs.declared.transaction.Footprint.{Footprint}
use Rattle.ledger_spec.specs.LedgerMap.{LedgerMap, key_bytes, IsKeptAt}
use Rattle.ledger_spec.specs.Seen.{seen, seen_of}
use Rattle.stage_runs.specs.declared.Change.{Change}
use Rattle.call_spec.specs.Invoked.{is_archived, declared, altered_bytes}

-- the entry at a key is archived in ledger n
abbrev pub is_archived_at : ℕ → LedgerMap → LedgerKey → Bool
is_archived_at n map key = is_archived (seen n map key)

-- the declared keys whose entries are archived in ledger n, in the order of the footprint
abbrev pub archived_in : ℕ → LedgerMap → Footprint → List LedgerKey
archived_in n map footprint = filter (is_archived_at n map) (declared footprint)

-- the bytes of the entry that a change leaves, if it is live in ledger n and was not live with an equal entry in the old map
abbrev pub changed_bytes : ℕ → LedgerMap → Change → ℕ
changed_bytes n old change = altered_bytes (seen n old change.key) (seen_of n change.after)

-- key and entry of a change are within their XDR formats
pub record CanCount (change : Change) : Type 0 where
  pub key : key_format.fits change.key
  pub after : IfSome change.after (IsKeptAt (key_bytes change.key))
