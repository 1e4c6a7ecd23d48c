-- What the program keeps of a recording, as the definitions name it (own).
use Rattle.std.specs.Prelude.{◌&&◌, ℕ, List, Bool, true, false, Option, Some, None, Result, Ok, Err, nat_lt, if◌then◌else◌}
use Rattle.std.specs.Option.{option_map}
use Rattle.xdr_spec.specs.Format.{list}
use Rattle.value_types.specs.Views.{datum}
use Rattle.value_types.specs.Datum.{Datum}
use Rattle.value_types.specs.declared.account_id.AccountId.{AccountId}
use Rattle.value_types.specs.declared.value.ScVal.{ScVal}
use Rattle.auth_types.specs.AuthEntry.{auth_entry_format}
use Rattle.auth_types.specs.declared.auth_entry.AuthEntry.{AuthEntry}
use Rattle.auth_spec.specs.Noted.{Notes}
use Rattle.host_spec.specs.declared.error.HostErr.{HostErr}
use Rattle.host_spec.specs.declared.error.HostErr.TheVariants as ends
use Rattle.budget_meter.specs.Meter.{Meter}
use Rattle.ledger_types.specs.declared.header.Header.{Header}
use Rattle.ledger_spec.specs.LedgerMap.{LedgerMap}
use Rattle.call_spec.specs.World.{Env}
use Rattle.call_spec.specs.Acts.{Out, after}
use Rattle.call_spec.specs.HostFunctions.{MOST_FRAMES, opener_of}
use Rattle.call_spec.specs.WholeRuns.{Work, does, start_of, all_allowed}
use Rattle.tx_apply.specs.Entering.{with_meter}
use Rattle.tx_apply.specs.Running.{charging}
use Rattle.auth_record.specs.declared.record.Recorded.{Recorded as Recorded'}
use Rattle.record_spec.specs.Trees.{Terms, entries_of}
use Rattle.record_spec.specs.Recorded.{Recorded, nothing_recorded, with_notes, nobody}

abbrev pub recorded_in : Recorded' → Recorded
recorded_in r = record { entries = r.entries; caught = r.caught; value = option_map datum r.value }

-- the recording run after its arguments have entered the host, with this budget then
abbrev pub entered_recording : Header → AccountId → Meter → Work → LedgerMap → Out Datum
entered_recording header source meter work entries =
    let env : Env = record { header = header; authority = nobody source; judge = all_allowed } in
    after (does env (opener_of env MOST_FRAMES) work) charging (with_meter meter (with_notes (start_of header 0 entries)))

-- the entries have a spelling, and so has their row
abbrev pub IsSpelledRow : List AuthEntry → Type 0
IsSpelledRow entries = (list 4294967295 auth_entry_format).fits entries

-- ---- the end of a run, as the program has it

abbrev pub value_in : Result ScVal HostErr → Option Datum
value_in (Ok value) = Some (datum value)
value_in (Err end) = None

-- the run failed, and was undone itself
abbrev pub has_failed : Result ScVal HostErr → Bool
has_failed (Err (ends.Failed e)) = true
has_failed _ = false

abbrev pub own_undone : Bool → Notes → ℕ
own_undone failed notes = if failed && nat_lt 0 notes.demands then 1 else 0

-- what is recorded, by the value, by whether the run failed, and by what the host has noted then
abbrev pub recorded_with : Terms → AccountId → Option Datum → Bool → Option Notes → Recorded
recorded_with terms source value failed None = nothing_recorded
recorded_with terms source value failed (Some notes) = record {
  entries = entries_of terms source notes.nodes;
  caught = nat_lt (own_undone failed notes) notes.undone;
  value = value;
}
