-- From acts over parts of the state to acts of the host.
use Rattle.std.proofs.Common.{◌≡◌, ℕ, List, [], Option, Result, Ok, Err, refl, sym, ap, ◌∙◌, subst}
use Rattle.std.specs.Prelude.{Vec}
use Rattle.std.specs.declared.alloc.Global.{Global}
use Rattle.budget_meter.specs.Meter.{Meter}
use Rattle.object_store.specs.Shown.{shown_of}
use Rattle.auth_spec.specs.Noted.{Notes}
use Rattle.host_spec.specs.declared.error.HostErr.{HostErr}
use Rattle.host_spec.specs.declared.error.HostErr.TheVariants as ends
use Rattle.call_spec.specs.World.{Access, World}
use Rattle.call_spec.specs.Acts.{Act, Failed, Out, Good, Bad, Undeclared, world_of}
use Rattle.call_spec.specs.Outcomes.{quiet, Says, trace_of, stopped_kind}
use Rattle.host_ledger.specs.Traced.{Tells}
use Rattle.host_ledger.proofs.Lemmas.{afterwards, tells_equal}
use Rattle.host_ledger.specs.declared.state.HostLedger.{HostLedger}
use Rattle.call_host.specs.Worlds.{world_in, DoesIn}
use Rattle.call_host.specs.declared.host.Host.{Host}
use Rattle.call_host.proofs.Joining.{Showing, Keeping, Telling, Pays, knowing, lefts, keep_rest}

-- what is told of the accesses since these, between two states of the host
abbrev pub telling : {G U V : Type 0} → Host G U V → Host G U V → List Access → Telling
telling old new before = Tells old.ledger.storage new.ledger.storage before

-- What an act leaves is what the state shows.
pub shown_as : {A B : Type 0} (shows : Showing) (keep : Keeping) (told : Telling) (m : Meter) (n : Option Notes) → Pays shows m n → (r : Result A HostErr) (view : A → B) (rest : World) (out : Out B) (left : List Access → World)
    → ((t : List Access) → shows (keep rest (left t)) t ≡ left t) → Says r view out (knowing told left) → Says r view out (lefts shows told (keep rest (world_of out)))
shown_as shows keep told m n pays (Ok a) view rest out left h p =
    let t = trace_of out in
    (p.0, p.1 ∙ ap (Good (view a)) (sym (h t) ∙ ap (λ w. shows (keep rest w) t) (sym (ap world_of p.1))))
shown_as shows keep told m n pays (Err (ends.Failed d)) view rest out left h p =
    let t = trace_of out in
    (p.0, p.1 ∙ ap (Bad (Failed d)) (sym (h t) ∙ ap (λ w. shows (keep rest w) t) (sym (ap world_of p.1))))
shown_as shows keep told m n pays (Err ends.Spent) view rest out left h p = (p.0, p.1, p.2 ∙ sym (ap (λ (w : World). w.meter) (h [])) ∙ (pays _ _).0 ∙ sym (pays _ _).0, p.3 ∙ sym (ap (λ (w : World). w.noted) (h [])) ∙ (pays _ _).1 ∙ sym (pays _ _).1)
shown_as shows keep told m n pays (Err (ends.Archived key)) view rest out left h p = (p.0, p.1, p.2 ∙ sym (ap (λ (w : World). w.meter) (h [])) ∙ (pays _ _).0 ∙ sym (pays _ _).0, p.3 ∙ sym (ap (λ (w : World). w.noted) (h [])) ∙ (pays _ _).1 ∙ sym (pays _ _).1)
shown_as {B = B} shows keep told m n pays (Err (ends.Undeclared key)) view rest out left h p =
    let e : (left []).meter ≡ (shows (keep rest (world_of out)) []).meter = sym (ap (λ (w : World). w.meter) (h [])) ∙ (pays _ _).0 ∙ sym (pays _ _).0 in
    let at : Meter → Out B = λ z. Undeclared (record { kind = stopped_kind out; key = key; used = z.used }) (world_of out) in
    (p.0, p.1 ∙ ap at e, p.2 ∙ e)
shown_as shows keep told m n pays (Err ends.NoMemory) view rest out left h p = tt

-- the words of a frame's arguments
pub begun_in : {G U V : Type 0} (old : Host G U V) (ledger : HostLedger G V) (r : Result (Vec ℕ Global) HostErr) (view : Vec ℕ Global → List ℕ) (act : Act (List ℕ))
    → ledger ≡ record old.ledger { objects = ledger.objects; frame = record old.ledger.frame { shown = ledger.frame.shown }; budget = ledger.budget }
    → ((w : World) → w.frame.shown ≡ shown_of old.ledger.objects old.ledger.frame.shown → w.meter ≡ old.ledger.budget
    → Says r view (act w) (quiet w (λ trace. record w { frame = record w.frame { shown = shown_of ledger.objects ledger.frame.shown }; trace = trace; meter = ledger.budget })))
    → DoesIn r view (λ env. act) old (record old { ledger = ledger })
begun_in {G} {U} {V} old ledger r view act stays does env is rest trace =
    let w = world_in rest old trace in
    let left : List Access → World = λ t. record w { frame = record w.frame { shown = shown_of ledger.objects ledger.frame.shown }; trace = t; meter = ledger.budget } in
    shown_as (λ v t. world_in v (record old { ledger = ledger }) t) keep_rest (Tells old.ledger.storage ledger.storage trace) ledger.budget old.marks.noted (λ _ _. (refl, refl)) r view rest (act w) left
    (λ t. subst (λ (l : HostLedger G V). world_in rest (record old { ledger = l }) t ≡ left t) (sym stays) refl)
    (afterwards r view (act w) old.ledger.storage ledger.storage trace w left (tells_equal old.ledger.storage ledger.storage trace (ap (λ (l : HostLedger G V). l.storage) stays)) (does w refl refl))
