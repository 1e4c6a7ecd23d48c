-- The footprint that a run needs: the keys that it touches (own, after CAP-0046-05).
use Rattle.std.specs.Prelude.{◌≡◌, Bool, true, false, not, ◌||◌, ◌&&◌, List, [], ◌∷◌, All, Option, Some, None, is_some, map}
use Rattle.std.specs.Prelude.{if◌then◌else◌}
use Rattle.std.specs.declared.cmp.Ordering.{Ordering}
use Rattle.std.specs.List.{filter, fold, list_any}
use Rattle.std.specs.List.Sorted.{IsStrictlySortedBy}
use Rattle.std.specs.Option.{option_or}
use Rattle.std.specs.Ordering.{nat_cmp, on}
use Rattle.std.specs.Cmp.Lexicographic.{slice_cmp}
use Rattle.std.specs.Str.{bytes_eq}
use Rattle.std.specs.BTreeSet.{insert_key}
use Rattle.ledger_types.specs.declared.key.LedgerKey.{LedgerKey}
use Rattle.tx_xdr.specs.declared.transaction.Footprint.{Footprint}
use Rattle.ledger_spec.specs.LedgerMap.{key_bytes}
use Rattle.stage_runs.specs.Maps.{Bytes, has_bytes}
use Rattle.stage_runs.specs.Whole.{has_twice}
use Rattle.call_spec.specs.World.{AccessKind, Read, Extend, Write, Access}
use Rattle.call_spec.specs.Footprints.{by_footprint, first_rejected}
use Rattle.call_spec.specs.Laws.{is_write, writes_in}
use Rattle.call_spec.specs.Invoked.{declared}

-- ---- touched keys

-- a key, and the strongest of its accesses
pub record Touched : Type 0 where
  pub key : LedgerKey
  pub kind : AccessKind

-- Write is above Extend, and Extend is above Read
abbrev pub stronger : AccessKind → AccessKind → AccessKind
stronger Write b = Write
stronger Extend Write = Write
stronger Extend Extend = Extend
stronger Extend Read = Extend
stronger Read b = b

-- The same rule stands in contract_storage/specs/Touched, in the names of the storage; tx_apply proves that they agree.
abbrev pub touch : AccessKind → LedgerKey → List Touched → List Touched
touch kind key [] = record { key = key; kind = kind } ∷ []
touch kind key (t ∷ ts) =
    if bytes_eq (key_bytes key) (key_bytes t.key) then record t { kind = stronger t.kind kind } ∷ ts else t ∷ touch kind key ts

-- The keys of a trace in the order of their first access, each with its strongest access. A trace has its newest access first.
abbrev pub touched : List Access → List Touched
touched [] = []
touched (a ∷ older) = touch a.kind a.key (touched older)

-- ---- the footprint

-- the order of keys by their XDR bytes
abbrev pub bytes_cmp : LedgerKey → LedgerKey → Ordering
bytes_cmp = on key_bytes (slice_cmp nat_cmp)

-- keys sorted by their XDR bytes, each once
abbrev pub rising : List LedgerKey → List LedgerKey
rising keys = fold (insert_key bytes_cmp) [] keys

abbrev pub keys_where : (AccessKind → Bool) → List Touched → List LedgerKey
keys_where test ts = map (λ t. t.key) (filter (λ t. test t.kind) ts)

abbrev pub footprint_by : List Touched → Footprint
footprint_by ts = record {
  read_only = rising (keys_where (λ kind. not (is_write kind)) ts);
  read_write = rising (keys_where is_write ts);
}

-- The keys with a write are read-write, and the other touched keys are read-only.
abbrev pub recorded : List Access → Footprint
recorded trace = footprint_by (touched trace)

abbrev pub no_footprint : Footprint
no_footprint = record { read_only = []; read_write = [] }

-- ---- what that says, key by key

-- an access of the key is in the trace
abbrev pub touches_in : List Access → Bytes → Bool
touches_in trace bytes = list_any (λ a. bytes_eq bytes (key_bytes a.key)) trace

-- the key with these bytes, as its first access has it; a trace has its newest access first
abbrev pub first_key : List Access → Bytes → Option LedgerKey
first_key [] bytes = None
first_key (a ∷ older) bytes = option_or (first_key older bytes) (if bytes_eq bytes (key_bytes a.key) then Some a.key else None)

-- Each key is as its first access has it. For keys that fit their format this follows from their bytes, which no two of them
-- share.
abbrev pub AreFirst : List Access → List LedgerKey → Type 0
AreFirst trace keys = All (λ key. first_key trace (key_bytes key) ≡ Some key) keys

-- the keys rise strictly by their XDR bytes
abbrev pub AreRising : List LedgerKey → Type 0
AreRising keys = IsStrictlySortedBy bytes_cmp keys

-- the footprint of a trace
pub record IsRecorded (trace : List Access) (footprint : Footprint) : Type 0 where
  pub read_write : (bytes : Bytes) → has_bytes footprint.read_write bytes ≡ writes_in trace bytes
  pub read_only : (bytes : Bytes) → has_bytes footprint.read_only bytes ≡ (touches_in trace bytes && not (writes_in trace bytes))
  pub reads_rise : AreRising footprint.read_only
  pub writes_rise : AreRising footprint.read_write
  pub reads_first : AreFirst trace footprint.read_only
  pub writes_first : AreFirst trace footprint.read_write

abbrev pub RecordedLaw : Type 0
RecordedLaw = (trace : List Access) → IsRecorded trace (recorded trace)

-- No other footprint has these properties.
abbrev pub OnlyLaw : Type 0
OnlyLaw = (trace : List Access) (footprint : Footprint) → IsRecorded trace footprint → footprint ≡ recorded trace

-- So the footprint allows each access of the trace, and has no key twice.
abbrev pub AllowedLaw : Type 0
AllowedLaw = (trace : List Access) → first_rejected (by_footprint (recorded trace)) trace ≡ None

abbrev pub OnceLaw : Type 0
OnceLaw = (trace : List Access) → has_twice (declared (recorded trace)) ≡ false

-- ---- smaller footprints

abbrev pub is_declared : Footprint → Bytes → Bool
is_declared footprint bytes = has_bytes footprint.read_only bytes || has_bytes footprint.read_write bytes

-- the key is left out, or is read-only in place of read-write
abbrev pub is_less_at : Footprint → Footprint → Bytes → Bool
is_less_at smaller footprint bytes =
    (is_declared footprint bytes && not (is_declared smaller bytes))
    || (has_bytes footprint.read_write bytes && has_bytes smaller.read_only bytes)

-- Every key of the smaller footprint is in the other one. No key is in the smaller one twice. Some key is left out, or is
-- read-only in place of read-write.
pub record IsSmaller (smaller footprint : Footprint) : Type 0 where
  pub within : (bytes : Bytes) → is_declared smaller bytes ≡ true → is_declared footprint bytes ≡ true
  pub once : has_twice (declared smaller) ≡ false
  pub less : (bytes : Bytes) × (is_less_at smaller footprint bytes ≡ true)

-- A footprint that is smaller than that of a trace rejects an access of the trace.
abbrev pub SmallerLaw : Type 0
SmallerLaw = (trace : List Access) (smaller : Footprint) → IsSmaller smaller (recorded trace)
    → is_some (first_rejected (by_footprint smaller) trace) ≡ true
