-- What becomes of an INVOKE_HOST_FUNCTION operation (own, after CAP-0046-05 and CAP-0046-07). The first test that holds decides:
-- malformed; an archived key; bytes read; an undeclared access; the budget; a failure; bytes written; else success.
use Rattle.std.specs.Prelude.{ℕ, List, ◌++◌, Bool, true, false, Option, Some, None, nat_lt, if◌then◌else◌}
use Rattle.std.specs.List.{list_any, sum_by}
use Rattle.std.specs.FinMap.{get, keys}
use Rattle.sha2.specs.Sha256.{sha256}
use Rattle.budget_meter.specs.declared.budget.Used.{Used}
use Rattle.value_types.specs.Datum.{Datum}
use Rattle.value_types.specs.Views.{scval}
use Rattle.value_types.specs.Hash.{hash_of}
use Rattle.value_types.specs.Equality.{is_same}
use Rattle.ledger_types.specs.Equality.{coded_entry}
use Rattle.ledger_types.specs.declared.key.LedgerKey.{LedgerKey}
use Rattle.ledger_types.specs.declared.entry.LedgerEntry.{LedgerEntry}
use Rattle.ledger_types.specs.declared.header.Header.{Header}
use Rattle.invoke_types.specs.Success.{success_format}
use Rattle.invoke_types.specs.declared.host_function.HostFunction.{HostFunction}
use Rattle.invoke_types.specs.declared.success.SuccessPreimage.{SuccessPreimage}
use Rattle.tx_xdr.specs.declared.transaction.Footprint.{Footprint}
use Rattle.tx_xdr.specs.declared.transaction.SorobanData.{SorobanData}
use Rattle.tx_results.specs.declared.operation.InvokeResult.{InvokeResult}
use Rattle.tx_results.specs.declared.operation.InvokeResult.TheVariants.{Success, Malformed, Trapped, ResourceLimitExceeded}
use Rattle.tx_results.specs.declared.operation.InvokeResult.TheVariants.{EntryArchived}
use Rattle.ledger_spec.specs.LedgerMap.{LedgerMap}
use Rattle.ledger_spec.specs.Seen.{Seen, live, absent, archived, seen, seen_of}
use Rattle.stage_runs.specs.Whole.{nothing_used}
use Rattle.call_spec.specs.World.{Access, World, next_seq, Authority}
use Rattle.call_spec.specs.Acts.{Failed, Spent, Archived, Out, Good, Bad, Undeclared, world_of}
use Rattle.call_spec.specs.Accesses.{entry_size}
use Rattle.call_spec.specs.Footprints.{by_footprint, first_rejected}
use Rattle.call_spec.specs.WholeRuns.{Work, work_of, whole}

-- ---- bytes that are read

abbrev pub is_archived : Seen → Bool
is_archived (live kept) = false
is_archived absent = false
is_archived archived = true

-- the bytes of a live entry
abbrev pub live_bytes : Seen → ℕ
live_bytes (live kept) = entry_size kept.entry
live_bytes absent = 0
live_bytes archived = 0

abbrev pub declared : Footprint → List LedgerKey
declared footprint = footprint.read_only ++ footprint.read_write

-- the entry of some declared key is archived in ledger n
abbrev pub declares_archived : ℕ → LedgerMap → Footprint → Bool
declares_archived n map footprint = list_any (λ key. is_archived (seen n map key)) (declared footprint)

-- the bytes of the live entries at the declared keys
abbrev pub read_bytes : ℕ → LedgerMap → Footprint → ℕ
read_bytes n map footprint = sum_by (λ key. live_bytes (seen n map key)) (declared footprint)

-- ---- bytes that are written

abbrev pub is_unaltered : LedgerEntry → Seen → Bool
is_unaltered entry (live kept) = is_same coded_entry entry kept.entry
is_unaltered entry absent = false
is_unaltered entry archived = false

abbrev pub altered_bytes : Seen → Seen → ℕ
altered_bytes old (live kept) = if is_unaltered kept.entry old then 0 else entry_size kept.entry
altered_bytes old absent = 0
altered_bytes old archived = 0

-- the bytes of the entry at a key of the new map, if it is live and was not live with an equal entry in the old one
abbrev pub written_at : ℕ → LedgerMap → LedgerMap → List ℕ → ℕ
written_at n old new key = altered_bytes (seen_of n (get old key)) (seen_of n (get new key))

abbrev pub written_bytes : ℕ → LedgerMap → LedgerMap → ℕ
written_bytes n old new = sum_by (written_at n old new) (keys new)

-- ---- the outcome

pub record Invoked : Type 0 where
  pub result : InvokeResult
  -- what is hashed into a success
  pub success : Option SuccessPreimage
  pub entries : LedgerMap
  pub used : Used

-- without an effect
abbrev pub unsuccessful : InvokeResult → LedgerMap → Used → Invoked
unsuccessful result map used = record { result = result; success = None; entries = map; used = used }

abbrev pub successful : SuccessPreimage → World → Invoked
successful success w = record {
  result = Success (hash_of (sha256 (success_format.spell success)));
  success = Some success;
  entries = w.entries;
  used = w.meter.used;
}

-- a run that returned: its writes may still be too large
abbrev pub by_writes : ℕ → SorobanData → LedgerMap → Datum → World → Invoked
by_writes n resources map d w =
    if nat_lt resources.write_bytes (written_bytes n map w.entries) then unsuccessful ResourceLimitExceeded map w.meter.used
    else successful (record { return_value = scval d; events = w.events }) w

-- A run without an undeclared access. It accesses no archived entry, since no declared key is.
abbrev pub by_end : ℕ → SorobanData → LedgerMap → Out Datum → Invoked
by_end n resources map (Good d w) = by_writes n resources map d w
by_end n resources map (Bad Spent w) = unsuccessful ResourceLimitExceeded map w.meter.used
by_end n resources map (Bad (Failed e) w) = unsuccessful Trapped map w.meter.used
by_end n resources map (Bad (Archived key) w) = unsuccessful Trapped map w.meter.used
by_end n resources map (Undeclared a w) = unsuccessful Trapped map w.meter.used

-- The trace of the whole run is judged when the run is over. The first undeclared access decides, whatever came after it.
abbrev pub by_trace : ℕ → SorobanData → LedgerMap → Option Access → Out Datum → Invoked
by_trace n resources map (Some a) out = unsuccessful Trapped map a.used
by_trace n resources map None out = by_end n resources map out

abbrev pub by_run : ℕ → SorobanData → LedgerMap → Out Datum → Invoked
by_run n resources map out = by_trace n resources map (first_rejected (by_footprint resources.footprint) (world_of out).trace) out

abbrev pub by_work : Header → Authority → SorobanData → LedgerMap → Option Work → Invoked
by_work header authority resources map None = unsuccessful Malformed map nothing_used
by_work header authority resources map (Some work) =
    if declares_archived (next_seq header) map resources.footprint then unsuccessful EntryArchived map nothing_used
    else if nat_lt resources.disk_read_bytes (read_bytes (next_seq header) map resources.footprint)
    then unsuccessful ResourceLimitExceeded map nothing_used
    else by_run (next_seq header) resources map (whole header authority resources.instructions work map)

-- the operation with these resources, over all entries of the ledger
abbrev pub invoked : Header → Authority → SorobanData → LedgerMap → HostFunction → Invoked
invoked header authority resources map function = by_work header authority resources map (work_of function)
