-- What an observer of a run has seen of its accesses (own).
use Rattle.std.specs.Prelude.{ℕ, suc, ◌-◌, List, [], ◌∷◌, length, nat_lt, if◌then◌else◌}
use Rattle.ledger_types.specs.declared.key.LedgerKey.{LedgerKey}
use Rattle.ledger_spec.specs.LedgerMap.{key_bytes}
use Rattle.contract_storage.specs.declared.access.Access.{Access}
use Rattle.contract_storage.specs.declared.touched.Touch.{Touch}

-- How many bytes of keys the observer keeps at most, how many it may still keep, and the accesses that it kept, the newest first.
pub record Seen : Type 0 where
  pub limit : ℕ
  pub room : ℕ
  pub kept : List Touch

-- before the first access
abbrev pub unseen : ℕ → Seen
unseen limit = record { limit = limit; room = limit; kept = [] }

-- what an access takes: the XDR bytes of its key, and one more
abbrev pub room_for : LedgerKey → ℕ
room_for key = suc (length (key_bytes key))

-- One more access. An observer without room for it keeps none from then on.
abbrev pub see : Access → LedgerKey → Seen → Seen
see access key s = record s {
  room = if nat_lt s.room (room_for key) then 0 else s.room - room_for key;
  kept = if nat_lt s.room (room_for key) then s.kept else record { key = key; access = access } ∷ s.kept;
}
