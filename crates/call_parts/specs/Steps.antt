-- Calls of the program as steps of a call or a create.
use Rattle.std.specs.Prelude.{◌≡◌, List, Result}
use Rattle.budget_meter.specs.Meter.{Meter}
use Rattle.value_types.specs.Datum.{Datum}
use Rattle.host_spec.specs.Acts as values
use Rattle.host_spec.specs.declared.error.HostErr.{HostErr}
use Rattle.contract_storage.specs.Stored.{Stored}
use Rattle.call_spec.specs.World.{World, Env}
use Rattle.call_spec.specs.Acts.{Act, lift}
use Rattle.call_spec.specs.Outcomes.{Says, quiet}
use Rattle.host_ledger.specs.Traced.{leaving}
use Rattle.host_ledger.specs.Worlds.{Serves}

-- A step over the ledger and the budget does an act of every environment that the storage serves, in every world with its entries
-- and this budget.
abbrev pub Steps : {A B : Type 0} → Result A HostErr → (A → B) → (Env → Act B) → Stored → Stored → Meter → Meter → Type 0
Steps r view act old new before after =
    (env : Env) → Serves env old → (w : World) → w.entries ≡ old.map → w.meter ≡ before
    → Says r view (act env w) (leaving old new w.trace (λ trace. record w { entries = new.map; trace = trace; meter = after }))

-- A step that charges does an act in every world with this budget.
abbrev pub Charges : {A B : Type 0} → Result A HostErr → (A → B) → Act B → Meter → Meter → Type 0
Charges r view act before after =
    (w : World) → w.meter ≡ before → Says r view (act w) (quiet w (λ trace. record w { meter = after }))

-- A step that shows values and charges does an act over values in every world with these shown values and this budget.
abbrev pub Shows : {A B : Type 0} → Result A HostErr → (A → B) → values.Act B → List Datum → List Datum → Meter → Meter → Type 0
Shows r view act old new before after =
    (w : World) → w.frame.shown ≡ old → w.meter ≡ before
    → Says r view (lift act w) (quiet w (λ trace. record w { frame = record w.frame { shown = new }; meter = after }))

-- A step that changes nothing does an act in every world.
abbrev pub Returns : {A B : Type 0} → Result A HostErr → (A → B) → Act B → Type 0
Returns r view act = (w : World) → Says r view (act w) (quiet w (λ trace. w))
