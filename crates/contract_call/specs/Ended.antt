-- How a call, an upload or a create ends, beside its run over all entries of the ledger (own).
use Rattle.std.specs.Prelude.{◌≡◌, List, [], Option, Some, None, Result, Ok, Err, IsSomeAnd}
use Rattle.ledger_spec.specs.LedgerMap.{LedgerMap}
use Rattle.value_types.specs.Datum.{Datum}
use Rattle.tx_xdr.specs.declared.transaction.Footprint.{Footprint}
use Rattle.host_spec.specs.declared.error.HostErr.{HostErr}
use Rattle.host_spec.specs.declared.error.HostErr.TheVariants as ends
use Rattle.contract_storage.specs.Footprint.{IsFootprint}
use Rattle.call_spec.specs.World.{Access, Judge, World}
use Rattle.call_spec.specs.Acts.{Failed, Spent, Archived, Out, Good, Bad, world_of}
use Rattle.call_spec.specs.Footprints.{by_footprint, first_rejected}
use Rattle.call_spec.specs.Laws.{Agree, Maps}
use Rattle.call_spec.specs.WholeRuns.{Work, all_allowed, done_under}
use Rattle.host_ledger.specs.Traced.{IsRecorded}
use Rattle.call_host.specs.Worlds.{world_around, authority_of}
use Rattle.call_host.specs.declared.host.Host.{Host}

-- this, unless memory ran out
abbrev pub UnlessMemory : {A : Type 0} → Result A HostErr → Type 0 → Type 0
UnlessMemory (Err ends.NoMemory) p = Unit {0}
UnlessMemory r p = p

-- Compares the result of the Rust function with the end of the whole run over the map m. The storage agrees with m on the keys
-- that may be read. After a failure, entries, events and authorisations that were used are as before the call; what was noted is
-- kept. After Spent and Archived the budget and what was noted are compared.
abbrev pub IsEnd : {A B G U V : Type 0} → Judge → LedgerMap → Out B → Result A HostErr → (A → B)
    → Host G U V → Host G U V → Type 0
IsEnd may m (Good b w) (Ok a) view old new =
    (b ≡ view a) × (new.ledger.budget ≡ w.meter) × (new.ledger.events ≡ w.events) × (new.marks.pairs ≡ w.pairs)
    × (new.marks.noted ≡ w.noted) × Maps may m old.ledger.storage.map w.entries new.ledger.storage.map
IsEnd may m (Bad (Failed e) w) (Err (ends.Failed d)) view old new =
    (d ≡ e) × (new.ledger.budget ≡ w.meter) × (new.ledger.events ≡ old.ledger.events) × (new.marks.pairs ≡ old.marks.pairs)
    × (new.marks.noted ≡ w.noted) × (new.ledger.storage.map ≡ old.ledger.storage.map)
IsEnd may m (Bad Spent w) (Err ends.Spent) view old new = (new.ledger.budget ≡ w.meter) × (new.marks.noted ≡ w.noted)
IsEnd may m (Bad (Archived key) w) (Err (ends.Archived k)) view old new =
    (k ≡ key) × (new.ledger.budget ≡ w.meter) × (new.marks.noted ≡ w.noted)
IsEnd may m out (Err ends.NoMemory) view old new = Unit {0}
IsEnd may m _ _ view old new = ⊥

-- The first undeclared access decides, with the sums at that access.
abbrev pub EndsBy : {A B G U V : Type 0} → Judge → LedgerMap → Option Access → Out B → Result A HostErr → (A → B)
    → Host G U V → Host G U V → Type 0
EndsBy may m (Some a) out (Err (ends.Undeclared key)) view old new = (key ≡ a.key) × (new.ledger.budget.used ≡ a.used)
EndsBy may m (Some a) out (Err ends.NoMemory) view old new = Unit {0}
EndsBy may m (Some a) out _ view old new = ⊥
EndsBy may m None out r view old new = IsEnd may m out r view old new

-- Take any map that agrees with the storage on the declared keys. The Rust function ends as the whole run over that map, or at
-- the first undeclared access of that run. The whole run checks no footprint.
abbrev pub Ends : {A G U V : Type 0} → Work → Result A HostErr → (A → Datum) → Host G U V → Host G U V → Type 0
Ends work r view old new =
    (footprint : Footprint) → IsSomeAnd old.ledger.storage.declared (IsFootprint footprint.read_only footprint.read_write)
    → (m : LedgerMap) → Agree (by_footprint footprint) m old.ledger.storage.map → (rest : World)
    → (let out = done_under all_allowed old.ledger.header.now (authority_of old) work
    (record (world_around rest old []) { entries = m }) in
    EndsBy (by_footprint footprint) m (first_rejected (by_footprint footprint) (world_of out).trace) out r view old new)

-- The same over a storage that records, and has recorded the keys of `trace` so far. The Rust function ends as the whole run.
-- Unless memory ran out, the storage then has the keys of the whole run's accesses, whatever its end, and its observer has seen
-- these accesses.
abbrev pub EndsRecorded : {A G U V : Type 0} → Work → Result A HostErr → (A → Datum) → Host G U V → Host G U V → Type 0
EndsRecorded work r view old new =
    old.ledger.storage.declared ≡ None → (rest : World) (trace : List Access) → IsRecorded old.ledger.storage trace
    → (let out = done_under all_allowed old.ledger.header.now (authority_of old) work (world_around rest old trace) in
    IsEnd all_allowed old.ledger.storage.map out r view old new
    × UnlessMemory r (IsRecorded new.ledger.storage (world_of out).trace))
