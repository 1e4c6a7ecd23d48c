-- The arguments of a host function, taken from its words.
use Rattle.std.specs.Prelude.{◌≡◌, List, Some, Result, Ok, Err}
use Rattle.budget_meter.specs.Meter.{Meter}
use Rattle.value_types.specs.Datum.{Datum, address}
use Rattle.value_types.specs.declared.address.ScAddress.TheVariants.{Contract}
use Rattle.host_spec.specs.Answers.{Answer}
use Rattle.host_spec.specs.declared.error.HostErr.{HostErr}
use Rattle.host_frame.specs.Answered.{answer_of}
use Rattle.host_frame.specs.declared.answer.Answer.{Answer as Answer'}
use Rattle.call_spec.specs.World.{Access, World, Env}
use Rattle.call_spec.specs.Acts.{Act, with_frame}
use Rattle.call_spec.specs.Frames.{Opener}
use Rattle.call_spec.specs.Creating.{Creation, creates}
use Rattle.call_spec.specs.Rules.{returning}
use Rattle.call_spec.specs.Outcomes.{Says, quiet}
use Rattle.call_host.specs.Worlds.{world_in, IsEnvOf, DoesIn}
use Rattle.call_host.specs.declared.host.Host.{Host}

-- `Ok a`: after the charges of the call, the act goes on as `next a`. `Err e`: the act ends with e, and only the budget has
-- changed.
abbrev pub Takes : {A : Type 0} → Result A HostErr → Act Answer → (A → Act Answer) → List Datum → Meter → Meter → Type 0
Takes (Ok a) act next shown before after =
    (w : World) → w.frame.shown ≡ shown → w.meter ≡ before → act w ≡ next a (record w { meter = after })
Takes (Err e) act next shown before after = (w : World) → w.frame.shown ≡ shown → w.meter ≡ before
    → (let none : Result Answer' HostErr = Err e in Says none answer_of (act w) (quiet w (λ trace. record w { meter = after })))

-- a create by the running frame
abbrev pub creates_here : Env → Opener → Creation → Act Answer
creates_here env opener c =
    with_frame (λ frame. returning (creates env opener (Some (Contract frame.contract)) c) (λ id. address (Contract id)))

-- `Takes` for the running frame of a host. What is taken leaves the storage alone.
abbrev pub TakesIn : {A G U V : Type 0} → Result A HostErr → (Env → Act Answer) → (Env → A → Act Answer)
    → Host G U V → Host G U V → Type 0
TakesIn (Ok a) act next old new = (new.ledger.storage ≡ old.ledger.storage)
    × ((env : Env) → IsEnvOf env old → (rest : World) (trace : List Access)
    → act env (world_in rest old trace) ≡ next env a (world_in rest new trace))
TakesIn (Err e) act next old new = let none : Result Answer' HostErr = Err e in DoesIn none answer_of act old new
