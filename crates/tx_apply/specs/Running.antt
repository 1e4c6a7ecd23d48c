-- How a host function ends after the charge for its value, as the code has it (own).
use Rattle.std.specs.Prelude.{◌≡◌, List, [], Result, Ok, Err, None, IsSomeAnd}
use Rattle.budget_meter.specs.Meter.{Meter}
use Rattle.budget_meter.specs.declared.kind.Kind.TheVariants.{ValSer}
use Rattle.value_types.specs.Datum.{Datum}
use Rattle.value_types.specs.Views.{datum}
use Rattle.value_types.specs.declared.value.ScVal.{ScVal}
use Rattle.ledger_types.specs.declared.header.Header.{Header}
use Rattle.tx_xdr.specs.declared.transaction.Footprint.{Footprint}
use Rattle.ledger_spec.specs.LedgerMap.{LedgerMap}
use Rattle.host_spec.specs.Hosted.{size_of}
use Rattle.host_spec.specs.declared.error.HostErr.{HostErr}
use Rattle.host_spec.specs.declared.error.HostErr.TheVariants as ends
use Rattle.contract_storage.specs.Footprint.{IsFootprint}
use Rattle.call_spec.specs.World.{Access, World, Authority}
use Rattle.call_spec.specs.Acts.{Failed, Spent, Out, Act, after, gives, paying, world_of}
use Rattle.call_spec.specs.Footprints.{by_footprint, first_rejected}
use Rattle.call_spec.specs.WholeRuns.{Work, start_of, all_allowed, done_under}
use Rattle.contract_call.specs.Traced.{IsRecorded}
use Rattle.contract_call.specs.Worlds.{authority_of, world_around}
use Rattle.contract_call.specs.Ended.{IsEnd, EndsBy, UnlessMemory}
use Rattle.contract_call.specs.Host.{Host}
use Rattle.contract_call.specs.Entering.{with_meter, Passes, Stops}

-- the charge for a value that is returned
abbrev pub charging : Datum → Act Datum
charging d = paying ValSer (size_of d) (gives d)

-- The value is returned after its charge, which may fail. Memory may run out.
abbrev pub Charges : Result ScVal HostErr → ScVal → Meter → Meter → Type 0
Charges (Ok v) value before after = (v ≡ value) × Passes {A = Datum} (paying ValSer (size_of (datum value))) before after
Charges (Err ends.Spent) value before after = Stops {A = Datum} Spent (paying ValSer (size_of (datum value))) before after
Charges (Err (ends.Failed e)) value before after =
    Stops {A = Datum} (Failed e) (paying ValSer (size_of (datum value))) before after
Charges (Err ends.NoMemory) value before after = Unit {0}
Charges (Err (ends.Undeclared key)) value before after = ⊥
Charges (Err (ends.Archived key)) value before after = ⊥

-- `Ends` for a work followed by the charge for its value, over the storage's own map
abbrev pub EndsCharged : {G U V : Type 0} → Work → Result ScVal HostErr → Host G U V → Host G U V → Type 0
EndsCharged work r old new = (footprint : Footprint)
    → IsSomeAnd old.ledger.storage.declared (IsFootprint footprint.read_only footprint.read_write) → (rest : World)
    → (let out = after (done_under all_allowed old.ledger.header.now (authority_of old) work) charging
    (world_around rest old []) in
    EndsBy (by_footprint footprint) old.ledger.storage.map
    (first_rejected (by_footprint footprint) (world_of out).trace) out r datum old new)

-- `EndsRecorded` for a work followed by the charge for its value
abbrev pub EndsChargedRecorded : {G U V : Type 0} → Work → Result ScVal HostErr → Host G U V → Host G U V → Type 0
EndsChargedRecorded work r old new =
    old.ledger.storage.declared ≡ None → (rest : World) (trace : List Access) → IsRecorded old.ledger.storage trace
    → (let out = after (done_under all_allowed old.ledger.header.now (authority_of old) work) charging
    (world_around rest old trace) in
    IsEnd all_allowed old.ledger.storage.map out r datum old new
    × UnlessMemory r (IsRecorded new.ledger.storage (world_of out).trace))

-- the whole run after its arguments have entered the host, with this budget then
abbrev pub entered_run : Header → Authority → Meter → Work → LedgerMap → Out Datum
entered_run header authority meter work entries =
    after (done_under all_allowed header authority work) charging (with_meter meter (start_of header 0 entries))
