-- Calls of the storage as accesses, and what the body of a row does.
pub use Rattle.host_acts.specs.Accessed.{end_of, named, Accesses, opens, Pays}
use Rattle.std.specs.Prelude.{◌≡◌, ℕ, List, Result}
use Rattle.host_interface.specs.declared.kinds.ArgKind.{ArgKind}
use Rattle.budget_meter.specs.Meter.{Meter}
use Rattle.value_types.specs.Datum.{Datum}
use Rattle.value_types.specs.declared.hash.Hash.{Hash}
use Rattle.host_spec.specs.declared.error.HostErr.{HostErr}
use Rattle.host_frame.specs.Answered.{answer_of}
use Rattle.host_frame.specs.declared.answer.Answer.{Answer as Answer'}
use Rattle.contract_storage.specs.Stored.{Stored}
use Rattle.call_spec.specs.World.{Copied, World, Env}
use Rattle.call_spec.specs.Rules.{Rule, answered}
use Rattle.call_spec.specs.Outcomes.{Says}
use Rattle.host_acts.specs.Served.{Serves}
use Rattle.host_acts.specs.Traced.{leaving}

-- The body returns what the row's rule returns for these words. This holds for every environment of the storage, and every world
-- with these entries, shown values, budget, contract and copy of its instance.
abbrev pub Runs : Result Answer' HostErr → (ks : List ArgKind) → (Env → Rule ks) → List ℕ → List Datum → Hash → Stored → Stored
    → Meter → Meter → Copied → Copied → Type 0
Runs r ks rule words shown contract old new before after copy changed =
    (env : Env) → Serves env old → (w : World) → w.entries ≡ old.map → w.meter ≡ before → w.frame.shown ≡ shown
    → w.frame.contract ≡ contract → w.frame.copy ≡ copy
    → Says r answer_of (answered ks (rule env) words w)
    (leaving old new w.trace
    (λ trace. record w { entries = new.map; trace = trace; meter = after; frame = record w.frame { copy = changed } }))
