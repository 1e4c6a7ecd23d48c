-- The extensions of an EXTEND_FOOTPRINT_TTL, key by key (own, after CAP-0046-12).
use Rattle.std.specs.Prelude.{ℕ, List, Option, Some, None, nat_lt, if◌then◌else◌}
use Rattle.std.specs.List.{filter_map}
use Rattle.ledger_types.specs.declared.key.LedgerKey.{LedgerKey}
use Rattle.ledger_spec.specs.LedgerMap.{LedgerMap}
use Rattle.ledger_spec.specs.Seen.{Seen, live, absent, archived, seen}
use Rattle.stage_runs.specs.declared.Extension.{Extension}

-- an entry that is live and expires before this ledger is to live until it
abbrev pub extension_seen : Seen → LedgerKey → ℕ → Option Extension
extension_seen (live kept) key until =
    if nat_lt kept.live_until until then Some (record { key = key; live_until = until }) else None
extension_seen absent key until = None
extension_seen archived key until = None

-- the extensions of the entries at these keys in ledger n, in the keys' order
abbrev pub extensions_of : ℕ → LedgerMap → List LedgerKey → ℕ → List Extension
extensions_of n entries keys until = filter_map (λ key. extension_seen (seen n entries key) key until) keys
