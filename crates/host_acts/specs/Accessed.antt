-- Calls of the storage as accesses.
use Rattle.std.specs.Prelude.{◌≡◌, Result, Ok, Err}
use Rattle.budget_meter.specs.Meter.{Meter}
use Rattle.budget_meter.specs.declared.kind.Kind.TheVariants.{ValDeser}
use Rattle.ledger_types.specs.declared.key.LedgerKey.{LedgerKey}
use Rattle.ledger_types.specs.declared.entry.LedgerEntry.{LedgerEntry}
use Rattle.host_spec.specs.declared.error.HostErr.{HostErr}
use Rattle.host_spec.specs.declared.error.HostErr.TheVariants as ends
use Rattle.host_spec.specs.Answers.{Answer}
use Rattle.host_frame.specs.Answered.{answer_of}
use Rattle.host_frame.specs.declared.answer.Answer.{Answer as Answer'}
use Rattle.contract_storage.specs.Stored.{Stored}
use Rattle.contract_storage.specs.declared.access.StoErr.{StoErr}
use Rattle.contract_storage.specs.declared.access.StoErr.TheVariants as err
use Rattle.call_spec.specs.Errors.{NO_ENTRY}
use Rattle.call_spec.specs.World.{World, Env}
use Rattle.call_spec.specs.Acts.{Act}
use Rattle.call_spec.specs.Accesses.{costs, effected, entry_size}
use Rattle.call_spec.specs.Storage.{value_in}
use Rattle.call_spec.specs.Outcomes.{Says}
use Rattle.host_acts.specs.Served.{Serves}
use Rattle.host_acts.specs.Traced.{leaving}

-- the end of a call of the storage with this key
abbrev pub end_of : LedgerKey → StoErr → HostErr
end_of key err.Undeclared = ends.Undeclared key
end_of key err.Archived = ends.Archived key
end_of key err.Missing = ends.Failed NO_ENTRY
end_of key (err.BadExtend e) = ends.Failed e
end_of key err.NoMemory = ends.NoMemory

abbrev pub named : {A : Type 0} → LedgerKey → Result A StoErr → Result A HostErr
named key (Ok a) = Ok a
named key (Err e) = Err (end_of key e)

-- A call does an act of every environment that the storage serves, in every world with its entries.
abbrev pub Accesses : {A B : Type 0} → Result A HostErr → (A → B) → (Env → Act B) → Stored → Stored → Type 0
Accesses r view act old new =
    (env : Env) → Serves env old → (w : World) → w.entries ≡ old.map
    → Says r view (act env w) (leaving old new w.trace (λ trace. record w { entries = new.map; trace = trace }))

-- what the value of a live entry gives, after the charge for the entry
abbrev pub opens : LedgerKey → LedgerEntry → Act Answer
opens key entry = effected key (costs ValDeser (entry_size entry) (value_in entry.data))

-- A call that charges does an act of every environment that the storage serves, in every world with its entries and this budget.
abbrev pub Pays : Result Answer' HostErr → (Env → Act Answer) → Stored → Stored → Meter → Meter → Type 0
Pays r act old new before after =
    (env : Env) → Serves env old → (w : World) → w.entries ≡ old.map → w.meter ≡ before
    → Says r answer_of (act env w)
    (leaving old new w.trace (λ trace. record w { entries = new.map; trace = trace; meter = after }))
