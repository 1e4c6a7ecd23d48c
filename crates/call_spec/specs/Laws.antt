-- Laws of runs: what a run does depends on the entries at declared keys alone, up to its first undeclared access (own, after
-- CAP-0046-05).
use Rattle.std.specs.Prelude.{◌≡◌, ◌≤◌, ◌<◌, ◌+◌, ◌^◌, ◌&&◌, ℕ, List, Bool, true, false, not, Option, Some, None, is_some}
use Rattle.std.specs.List.{list_any}
use Rattle.std.specs.Str.{bytes_eq}
use Rattle.std.specs.FinMap.{get}
use Rattle.ledger_types.specs.Entry.{key_of}
use Rattle.ledger_types.specs.declared.key.LedgerKey.{LedgerKey}
use Rattle.ledger_types.specs.declared.header.Header.{Header}
use Rattle.invoke_types.specs.declared.host_function.HostFunction.{HostFunction}
use Rattle.tx_xdr.specs.declared.transaction.Footprint.{Footprint}
use Rattle.tx_xdr.specs.declared.transaction.SorobanData.{SorobanData}
use Rattle.ledger_spec.specs.declared.Kept.{Kept}
use Rattle.ledger_spec.specs.LedgerMap.{LedgerMap, key_bytes, HasCodeHash}
use Rattle.stage_runs.specs.Maps.{AgreeOn, has_bytes}
use Rattle.host_interface.specs.declared.import.HostImport.{HostImport}
use Rattle.wasm_spec.specs.Spending.{IsLater}
use Rattle.host_spec.specs.ValueFunctions.{value_rule}
use Rattle.call_spec.specs.World.{AccessKind, Read, Extend, Write, Judge, Access, World, Env, next_seq, Authority}
use Rattle.call_spec.specs.Acts.{Archived, Out, Good, Bad, Undeclared, world_of}
use Rattle.call_spec.specs.Footprints.{by_footprint, first_rejected, up_to}
use Rattle.call_spec.specs.Frames.{Entered, framed, Opener}
use Rattle.call_spec.specs.HostFunctions.{world_rule, host_of, opener_of}
use Rattle.call_spec.specs.WholeRuns.{Work, all_allowed, done_under, whole, run_under}
use Rattle.call_spec.specs.Invoked.{declares_archived, Invoked, invoked}

-- ---- maps

-- two maps have the same at each key that may be read
abbrev pub Agree : Judge → LedgerMap → LedgerMap → Type 0
Agree may m n = AgreeOn (may Read) m n

-- two maps agree on the keys that may be read, and are elsewhere the same as m and n
pub record Maps (may : Judge) (m n p q : LedgerMap) : Type 0 where
  pub agree : Agree may p q
  pub left : (key : List ℕ) → may Read key ≡ false → get p key ≡ get m key
  pub right : (key : List ℕ) → may Read key ≡ false → get q key ≡ get n key

-- ---- ends

-- two worlds that differ in their maps alone
pub record AlikeWorlds (may : Judge) (m n : LedgerMap) (w v : World) : Type 0 where
  pub rest : v ≡ record w { entries = v.entries }
  pub maps : Maps may m n w.entries v.entries

-- two runs ended alike, over m and over n
abbrev pub AlikeEnds : {A : Type 0} → Judge → LedgerMap → LedgerMap → Out A → Out A → Type 0
AlikeEnds may m n (Good a w) (Good b v) = (a ≡ b) × AlikeWorlds may m n w v
AlikeEnds may m n (Bad d w) (Bad e v) = (d ≡ e) × AlikeWorlds may m n w v
AlikeEnds may m n _ _ = ⊥

-- ---- two whole runs

-- The traces are the same up to and including the first undeclared access. If there is none, the ends are the same.
pub record AlikeRuns {A : Type 0} (may : Judge) (m n : LedgerMap) (one other : Out A) : Type 0 where
  pub traces : up_to may (world_of one).trace ≡ up_to may (world_of other).trace
  pub ends : first_rejected may (world_of one).trace ≡ None → AlikeEnds may m n one other

-- Whole runs over two maps that agree on a footprint are the same up to the first access that the footprint does not declare.
abbrev pub LocalLaw : Type 0
LocalLaw = (header : Header) (authority : Authority) (instructions : ℕ) (work : Work) (footprint : Footprint) (m n : LedgerMap)
    → Agree (by_footprint footprint) m n
    → AlikeRuns (by_footprint footprint) m n (whole header authority instructions work m)
    (whole header authority instructions work n)

-- The same holds of a call, an upload or a create from any world.
abbrev pub LocalFromLaw : Type 0
LocalFromLaw = (header : Header) (authority : Authority) (work : Work) (footprint : Footprint) (w : World) (n : LedgerMap)
    → Agree (by_footprint footprint) w.entries n
    → (let one = done_under all_allowed header authority work w in
    let other = done_under all_allowed header authority work (record w { entries = n }) in
    AlikeRuns (by_footprint footprint) w.entries n one other)

-- ---- a whole run, and a run that is stopped at its first undeclared access

-- the run stopped at this access, with the sums then
abbrev pub IsStoppedAt : {A : Type 0} → Access → Out A → Type 0
IsStoppedAt a (Undeclared stopped v) = (stopped ≡ a) × (v.meter.used ≡ a.used)
IsStoppedAt a (Good b v) = ⊥
IsStoppedAt a (Bad e v) = ⊥

abbrev pub Stops : {A : Type 0} → Judge → LedgerMap → LedgerMap → Option Access → Out A → Out A → Type 0
Stops may m n (Some a) one cut = IsStoppedAt a cut
Stops may m n None one cut = AlikeEnds may m n one cut

-- For every map that agrees with the footprint's keys, a run that judges each access when it is made is the whole run, up to its
-- first undeclared access.
abbrev pub StopLaw : Type 0
StopLaw = (header : Header) (authority : Authority) (instructions : ℕ) (work : Work) (footprint : Footprint) (m n : LedgerMap)
    → Agree (by_footprint footprint) m n
    → (let one = whole header authority instructions work m in
    let cut = run_under (by_footprint footprint) header authority instructions work n in
    Stops (by_footprint footprint) m n (first_rejected (by_footprint footprint) (world_of one).trace) one cut)

-- The same holds of a call, an upload or a create from any world without an undeclared access so far.
abbrev pub EndToEndLaw : Type 0
EndToEndLaw = (header : Header) (authority : Authority) (work : Work) (footprint : Footprint) (w : World) (n : LedgerMap)
    → Agree (by_footprint footprint) w.entries n
    → first_rejected (by_footprint footprint) w.trace ≡ None
    → (let one = done_under all_allowed header authority work w in
    let cut = done_under (by_footprint footprint) header authority work (record w { entries = n }) in
    Stops (by_footprint footprint) w.entries n (first_rejected (by_footprint footprint) (world_of one).trace) one cut)

-- ---- what a run leaves at keys that it does not write

abbrev pub is_write : AccessKind → Bool
is_write Read = false
is_write Extend = false
is_write Write = true

-- a write of the key is in the trace
abbrev pub writes_in : List Access → List ℕ → Bool
writes_in trace key = list_any (λ a. is_write a.kind && bytes_eq key (key_bytes a.key)) trace

-- the same entry, which may live longer, or no entry still
abbrev pub IsExtended : Option Kept → Option Kept → Type 0
IsExtended None None = Unit {0}
IsExtended (Some old) (Some new) = (new.entry ≡ old.entry) × (old.live_until ≤ new.live_until)
IsExtended _ _ = ⊥

-- At a key that the run did not write, its entry stays as it was, but for its life, which may be longer.
abbrev pub WrittenLaw : Type 0
WrittenLaw = (header : Header) (authority : Authority) (instructions : ℕ) (work : Work) (entries : LedgerMap) (key : List ℕ)
    → (let w = world_of (whole header authority instructions work entries) in writes_in w.trace key ≡ false
    → IsExtended (get entries key) (get w.entries key))

-- So a run without an undeclared access may make lives longer at the keys that are not declared read-write, and changes nothing
-- else there.
abbrev pub ReadOnlyLaw : Type 0
ReadOnlyLaw =
    (header : Header) (authority : Authority) (instructions : ℕ) (work : Work) (footprint : Footprint) (entries : LedgerMap)
    (key : List ℕ)
    → (let w = world_of (whole header authority instructions work entries) in
    first_rejected (by_footprint footprint) w.trace ≡ None → has_bytes footprint.read_write key ≡ false
    → IsExtended (get entries key) (get w.entries key))

-- ---- what a run leaves at every key

-- The bytes are those of the entry's key, its live-until ledger has 32 bits, and a code entry's hash is right.
pub record IsWellKept (bytes : List ℕ) (kept : Kept) : Type 0 where
  pub numbered : kept.live_until < 2 ^ 32
  pub keyed : bytes ≡ key_bytes (key_of kept.entry)
  pub hashed : HasCodeHash kept.entry.data

abbrev pub AreWellKept : LedgerMap → Type 0
AreWellKept map = (bytes : List ℕ) (kept : Kept) → get map bytes ≡ Some kept → IsWellKept bytes kept

-- the live-until ledgers of new entries, and the furthest of extended ones, have 32 bits
pub record AreNumberedLives (header : Header) : Type 0 where
  pub temporary : next_seq header + header.settings.min_temporary_ttl ≤ 2 ^ 32
  pub persistent : next_seq header + header.settings.min_persistent_ttl ≤ 2 ^ 32
  pub furthest : next_seq header + header.settings.max_entry_ttl ≤ 2 ^ 32

-- However a whole run ends, it leaves each entry at its own key, each life in 32 bits and each code at its hash.
abbrev pub KeptLaw : Type 0
KeptLaw = (header : Header) (authority : Authority) (instructions : ℕ) (work : Work) (entries : LedgerMap)
    → AreNumberedLives header → AreWellKept entries
    → AreWellKept (world_of (whole header authority instructions work entries)).entries

-- The same holds of a call, an upload or a create from any world.
abbrev pub KeptFromLaw : Type 0
KeptFromLaw =
    (header : Header) (authority : Authority) (work : Work) (w : World) → AreNumberedLives header → AreWellKept w.entries
    → AreWellKept (world_of (done_under all_allowed header authority work w)).entries

-- ---- archived entries

-- If a persistent entry lives one ledger at least, no declared key is archived, and no access is undeclared, then the run does
-- not end at an archived entry.
abbrev pub NeverArchivedLaw : Type 0
NeverArchivedLaw =
    (header : Header) (authority : Authority) (instructions : ℕ) (work : Work) (footprint : Footprint) (entries : LedgerMap)
    (key : LedgerKey) (w : World)
    → 1 ≤ header.settings.min_persistent_ttl → declares_archived (next_seq header) entries footprint ≡ false
    → first_rejected (by_footprint footprint) (world_of (whole header authority instructions work entries)).trace ≡ None
    → whole header authority instructions work entries ≡ Bad (Archived key) w → ⊥

-- ---- operations

-- Two outcomes with the same result, preimage and sums. Their maps agree at declared keys. At other keys each map is unchanged.
pub record AlikeInvoked (may : Judge) (m n : LedgerMap) (one other : Invoked) : Type 0 where
  pub result : one.result ≡ other.result
  pub success : one.success ≡ other.success
  pub maps : Maps may m n one.entries other.entries
  pub used : one.used ≡ other.used

-- What becomes of an operation depends on the entries at its declared keys alone. All other entries stay as they were.
abbrev pub FrameLaw : Type 0
FrameLaw = (header : Header) (authority : Authority) (resources : SorobanData) (function : HostFunction) (one other : LedgerMap)
    → Agree (by_footprint resources.footprint) one other
    → AlikeInvoked (by_footprint resources.footprint) one other (invoked header authority resources one function)
    (invoked header authority resources other function)

-- ---- host functions

-- Each function of the host interface acts on the world or on values alone.
abbrev pub EachHasRule : Type 0
EachHasRule = (env : Env) (opener : Opener) (i : HostImport) → is_some (world_rule env opener i) ≡ not (is_some (value_rule i))

-- ---- the sums of the budget

-- However a frame's run ends, no sum of the budget is lower then, for every number of frames that may still be open.
abbrev pub SumsGrowLaw : Type 0
SumsGrowLaw = (header : Header) (authority : Authority) (room : ℕ) (e : Entered) (w : World)
    → (let env : Env = record { header = header; authority = authority; judge = all_allowed } in
    IsLater w.meter (world_of (framed env (host_of env (opener_of env room)) e w)).meter)
