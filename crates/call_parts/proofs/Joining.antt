-- Steps one after another.
use Rattle.std.proofs.Common.{◌≡◌, ℕ, List, Result, Ok, Err, refl, sym, ap, subst}
use Rattle.budget_meter.specs.Costs.{IsWithin}
use Rattle.budget_meter.specs.Meter.{Meter, used_after}
use Rattle.budget_meter.specs.declared.kind.Kind.{Kind}
use Rattle.value_types.specs.Datum.{Datum}
use Rattle.ledger_spec.specs.LedgerMap.{LedgerMap}
use Rattle.host_spec.specs.Acts as values
use Rattle.host_spec.specs.Ends.{host_end}
use Rattle.host_spec.specs.declared.error.ValueErr.{ValueErr}
use Rattle.host_spec.specs.declared.error.ValueErr.TheVariants as errs
use Rattle.host_spec.specs.declared.error.HostErr.{HostErr}
use Rattle.host_spec.specs.declared.error.HostErr.TheVariants as ends
use Rattle.host_frame.proofs.Lemmas.{charged_good, charged_spent}
use Rattle.contract_storage.specs.Stored.{Stored, IsLater}
use Rattle.call_spec.specs.World.{Access, World, Env}
use Rattle.call_spec.specs.Acts.{Act, Out, Good, Bad, Failed, Undeclared, then_do, after, lift, lifted, with_state}
use Rattle.call_spec.specs.Outcomes.{Leaves, Says, quiet, trace_of}
use Rattle.host_ledger.specs.Worlds.{Serves}
use Rattle.host_ledger.specs.Traced.{leaving}
use Rattle.host_ledger.proofs.Lemmas.{quietly, since}
use Rattle.host_ledger.specs.Accessed.{Accesses}
use Rattle.call_parts.specs.Steps.{Steps, Charges, Shows, Returns}

-- ---- outcomes

-- grouping of acts
pub then_assoc : {A B C : Type 0} (out : Out A) (f : A → Act B) (g : B → Act C) → then_do (then_do out f) g ≡ then_do out (λ a w. then_do (f a w) g)
then_assoc (Good a w) f g = refl
then_assoc (Bad e w) f g = refl
then_assoc (Undeclared a w) f g = refl

-- an end of the first act is an end of both
pub stops : {A B C D : Type 0} (view : A → B) (view' : C → D) (e : HostErr) (out : Out B) (next : B → Act D) (left : Leaves)
    → (let r : Result A HostErr = Err e in Says r view out left) → (let q : Result C HostErr = Err e in Says q view' (then_do out next) left)
stops view view' (ends.Failed e) (Good b u) next left h = absurd (let k = h.1 in cc)
stops view view' (ends.Failed e) (Bad f u) next left h = let k = h.1 in (h.0, cc)
stops view view' (ends.Failed e) (Undeclared a u) next left h = absurd (let k = h.1 in cc)
stops view view' ends.Spent (Good b u) next left h = absurd (let k = h.1 in cc)
stops view view' ends.Spent (Bad f u) next left h = let k = h.1 in (h.0, cc, h.2, h.3)
stops view view' ends.Spent (Undeclared a u) next left h = absurd (let k = h.1 in cc)
stops view view' (ends.Archived key) (Good b u) next left h = absurd (let k = h.1 in cc)
stops view view' (ends.Archived key) (Bad f u) next left h = let k = h.1 in (h.0, cc, h.2, h.3)
stops view view' (ends.Archived key) (Undeclared a u) next left h = absurd (let k = h.1 in cc)
stops view view' (ends.Undeclared key) (Good b u) next left h = absurd (let k = h.1 in cc)
stops view view' (ends.Undeclared key) (Bad f u) next left h = absurd (let k = h.1 in cc)
stops view view' (ends.Undeclared key) (Undeclared a u) next left h = let k = h.1 in (h.0, cc, h.2)
stops view view' ends.NoMemory out next left h = tt

-- an act that returned, and what comes after it
pub goes : {A B C D : Type 0} (view : A → B) (view' : C → D) (a : A) (q : Result C HostErr) (out : Out B) (next : B → Act D) (left later : Leaves)
    → (let r : Result A HostErr = Ok a in Says r view out left) → ((t : List Access) → left.told t → Says q view' (next (view a) (left.world t)) later)
    → Says q view' (then_do out next) later
goes view view' a q out next left later h k =
    subst (λ (o : Out _). Says q view' (then_do o next) later) (sym h.1) (k (trace_of out) h.0)

-- a world that keeps its trace
pub retraced : {A B : Type 0} (r : Result A HostErr) (view : A → B) (out : Out B) (w u : World) → Says r view out (quiet w (λ trace. u)) → Says r view out (quiet w (λ trace. record u { trace = trace }))
retraced (Ok a) view out w u h = (h.0, subst (λ (o : Out _). o ≡ Good (view a) (record u { trace = trace_of o })) (sym h.1) refl)
retraced (Err (ends.Failed e)) view out w u h = (h.0, subst (λ (o : Out _). o ≡ Bad (Failed e) (record u { trace = trace_of o })) (sym h.1) refl)
retraced (Err ends.Spent) view out w u h = h
retraced (Err (ends.Archived key)) view out w u h = h
retraced (Err (ends.Undeclared key)) view out w u h = h
retraced (Err ends.NoMemory) view out w u h = tt

-- ---- steps

-- a step that charges is a step over the ledger
pub charges_steps : {A B : Type 0} (r : Result A HostErr) (view : A → B) (act : Act B) (s : Stored) (before after : Meter) → Charges r view act before after → Steps r view (λ _. act) s s before after
charges_steps {A} {B} r view act s before after h env serves w i j =
    subst (λ (map : LedgerMap). Says r view (act w) (leaving s s w.trace (λ trace. record w { entries = map; trace = trace; meter = after }))) i
    (quietly r view (act w) s w (λ trace. record w { trace = trace; meter = after }) (retraced r view (act w) w (record w { meter = after }) (h w j)))

-- a step that changes nothing charges nothing
pub returns_charges : {A B : Type 0} (r : Result A HostErr) (view : A → B) (act : Act B) (meter : Meter) → Returns r view act → Charges r view act meter meter
returns_charges r view act meter h w j = subst (λ (m : Meter). Says r view (act w) (quiet w (λ trace. record w { meter = m }))) j (h w)

-- an access that charges nothing is a step
pub accesses_steps : {A B : Type 0} (r : Result A HostErr) (view : A → B) (act : Env → Act B) (old new : Stored) (meter : Meter) → Accesses r view act old new → Steps r view act old new meter meter
accesses_steps r view act old new meter h env serves w i j =
    subst (λ (m : Meter). Says r view (act env w) (leaving old new w.trace (λ trace. record w { entries = new.map; trace = trace; meter = m }))) j (h env serves w i)

-- a later storage serves the same environments
pub serves_later : (env : Env) (old new : Stored) → IsLater old new → Serves env old → Serves env new
serves_later env old new later serves = subst (λ (s : Stored). Serves env s) (sym later) (record { number = serves.number; lives = serves.lives; judge = serves.judge })

pub steps_stop : {A B C D : Type 0} (view : A → B) (view' : C → D) (e : HostErr) (act : Env → Act B) (next : Env → B → Act D) (old new : Stored) (before after' : Meter)
    → (let r : Result A HostErr = Err e in Steps r view act old new before after') → (let q : Result C HostErr = Err e in Steps q view' (λ env. after (act env) (next env)) old new before after')
steps_stop view view' e act next old new before after' h env serves w i j = stops view view' e (act env w) (next env) _ (h env serves w i j)

pub steps_then : {A B C D : Type 0} (view : A → B) (view' : C → D) (a : A) (q : Result C HostErr) (act : Env → Act B) (next : Env → B → Act D) (old mid new : Stored) (before between after' : Meter)
    → (let r : Result A HostErr = Ok a in Steps r view act old mid before between) → ((env : Env) → Serves env old → Serves env mid) → Steps q view' (λ env. next env (view a)) mid new between after'
    → Steps q view' (λ env. after (act env) (next env)) old new before after'
steps_then view view' a q act next old mid new before between after' h later k env serves w i j =
    goes view view' a q (act env w) (next env) _ _ (h env serves w i j) (λ t told.
    since q view' _ old mid new w.trace t _ told (k env (later env serves) (record w { entries = mid.map; trace = t; meter = between }) refl refl))

-- the same act in the worlds of the step
pub steps_as : {A B : Type 0} (r : Result A HostErr) (view : A → B) (act act' : Env → Act B) (old new : Stored) (before after' : Meter)
    → ((env : Env) → Serves env old → (w : World) → act env w ≡ act' env w) → Steps r view act old new before after' → Steps r view act' old new before after'
steps_as r view act act' old new before after' same h env serves w i j =
    subst (λ (out : Out _). Says r view out (leaving old new w.trace (λ trace. record w { entries = new.map; trace = trace; meter = after' }))) (same env serves w) (h env serves w i j)

-- ---- charges

pub charges_stop : {A B C D : Type 0} (view : A → B) (view' : C → D) (e : HostErr) (act : Act B) (next : B → Act D) (before after' : Meter)
    → (let r : Result A HostErr = Err e in Charges r view act before after') → (let q : Result C HostErr = Err e in Charges q view' (after act next) before after')
charges_stop view view' e act next before after' h w j = stops view view' e (act w) next _ (h w j)

pub charges_then : {A B C D : Type 0} (view : A → B) (view' : C → D) (a : A) (q : Result C HostErr) (act : Act B) (next : B → Act D) (before between after' : Meter)
    → (let r : Result A HostErr = Ok a in Charges r view act before between) → Charges q view' (next (view a)) between after' → Charges q view' (after act next) before after'
charges_then view view' a q act next before between after' h k w j =
    goes view view' a q (act w) next (quiet w (λ trace. record w { meter = between })) (quiet w (λ trace. record w { meter = after' })) (h w j) (λ t told. k (record w { meter = between }) refl)

-- ---- acts over values

-- an act over values makes no access
lifted_quietly : {B : Type 0} (w : World) (out : values.Out B) → trace_of (lifted w out) ≡ w.trace
lifted_quietly w (values.Good b s) = refl
lifted_quietly w (values.Failed e s) = refl
lifted_quietly w (values.Spent s) = refl

says_lifted : {A B : Type 0} (e : ValueErr) (view : A → B) (out : values.Out B) (w : World) (s : values.State) → (let r : Result A ValueErr = Err e in values.Says r view out s)
    → (let q : Result A HostErr = Err (host_end e) in Says q view (lifted w out) (quiet w (λ trace. with_state s w)))
says_lifted (errs.Failed e) view out w s h = (lifted_quietly w out, ap (lifted w) h)
says_lifted errs.Spent view out w s h = (lifted_quietly w out, rw h refl, rw h refl, rw h refl)
says_lifted errs.NoMemory view out w s h = tt

-- a call over values that returned
pub lifted_good : {A B : Type 0} (a : A) (view : A → B) (act : values.Act B) (old new : List Datum) (before after' : Meter)
    → ((memory : List ℕ) → act (values.state old memory before) ≡ values.Good (view a) (values.state new memory after'))
    → (let q : Result A HostErr = Ok a in Shows q view act old new before after')
lifted_good a view act old new before after' h w i j = (
  lifted_quietly w (act (values.state w.frame.shown w.frame.memory w.meter)),
  subst (λ (shown : List Datum). lifted w (act (values.state shown w.frame.memory w.meter)) ≡ Good (view a) (record w { frame = record w.frame { shown = new }; meter = after' })) (sym i)
      (subst (λ (m : Meter). lifted w (act (values.state old w.frame.memory m)) ≡ Good (view a) (record w { frame = record w.frame { shown = new }; meter = after' })) (sym j)
      (ap (lifted w) (h w.frame.memory))),
)

-- a call over values that ended
pub lifted_bad : {A B : Type 0} (e : ValueErr) (view : A → B) (act : values.Act B) (old new : List Datum) (before after' : Meter)
    → ((memory : List ℕ) → (let r : Result A ValueErr = Err e in values.Says r view (act (values.state old memory before)) (values.state new memory after')))
    → (let q : Result A HostErr = Err (host_end e) in Shows q view act old new before after')
lifted_bad {A} {B} e view act old new before after' h w i j =
    let q : Result A HostErr = Err (host_end e) in
    subst (λ (shown : List Datum). Says q view (lifted w (act (values.state shown w.frame.memory w.meter))) (quiet w (λ trace. record w { frame = record w.frame { shown = new }; meter = after' }))) (sym i)
    (subst (λ (m : Meter). Says q view (lifted w (act (values.state old w.frame.memory m))) (quiet w (λ trace. record w { frame = record w.frame { shown = new }; meter = after' }))) (sym j)
    (says_lifted e view (act (values.state old w.frame.memory before)) w (values.state new w.frame.memory after') (h w.frame.memory)))

-- ---- the charge

pub pay_good : (u : Unit {0}) (kind : Kind) (input : ℕ) (before after' : Meter) → IsWithin before.limits (used_after before kind input) → after' ≡ record before { used = used_after before kind input }
    → (let q : Result (Unit {0}) HostErr = Ok u in Charges q (λ v. v) (lift (values.charged kind input)) before after')
pay_good u kind input before after' h e w j =
    lifted_good u (λ v. v) (values.charged kind input) w.frame.shown w.frame.shown before after' (λ memory. charged_good kind input w.frame.shown memory before after' h e) w refl j

pub pay_spent : (kind : Kind) (input : ℕ) (before after' : Meter) → (IsWithin before.limits (used_after before kind input) → ⊥) → after' ≡ before
    → (let q : Result (Unit {0}) HostErr = Err ends.Spent in Charges q (λ v. v) (lift (values.charged kind input)) before after')
pay_spent kind input before after' h e w j =
    lifted_bad errs.Spent (λ (v : Unit {0}). v) (values.charged kind input) w.frame.shown w.frame.shown before after' (λ memory. charged_spent kind input w.frame.shown memory before after' h e) w refl j
