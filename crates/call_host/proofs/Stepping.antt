-- Steps over the ledger and the budget, one after another.
use Rattle.std.proofs.Common.{◌≡◌, Result, Ok, Err, refl, ap}
use Rattle.budget_meter.specs.Meter.{Meter}
use Rattle.host_spec.specs.declared.error.HostErr.{HostErr}
use Rattle.contract_storage.specs.Stored.{Stored, IsLater}
use Rattle.call_spec.specs.World.{Env}
use Rattle.call_spec.specs.Acts.{Act, Good, after, gives}
use Rattle.host_ledger.specs.Traced.{Tells, leaving}
use Rattle.host_ledger.proofs.Lemmas.{serves_later, since}
use Rattle.call_parts.specs.Steps.{Steps}
use Rattle.call_host.proofs.Joining.{stop, go_on, fails_as, as_fails}

pub steps_on : {A B C D : Type 0} (a : A) (r : Result C HostErr) (view : A → B) (other : C → D) (act : Env → Act B) (next : Env → B → Act D) (old mid new : Stored) (before middle last : Meter)
    → IsLater old mid → (let given : Result A HostErr = Ok a in Steps given view act old mid before middle) → Steps r other (λ env. next env (view a)) mid new middle last
    → Steps r other (λ env. after (act env) (next env)) old new before last
steps_on a r view other act next old mid new before middle last later one two env serves w i j =
    go_on (λ _ t. record w { entries = mid.map; trace = t; meter = middle }) (λ _ t. record w { entries = new.map; trace = t; meter = last }) (λ rest _. rest) (Tells old mid w.trace) (Tells old new w.trace)
    (λ _ _ _. refl) a r view other w (act env w) (next env) (one env serves w i j)
    (λ _ t told. since r other (next env (view a) (record w { entries = mid.map; trace = t; meter = middle })) old mid new w.trace t (λ u. record w { entries = new.map; trace = u; meter = last }) told
    (two env (serves_later env old mid later serves) (record w { entries = mid.map; trace = t; meter = middle }) refl refl))

pub steps_stop : {A B C D : Type 0} (e : HostErr) (view : A → B) (other : C → D) (act : Env → Act B) (next : Env → B → Act D) (old new : Stored) (before last : Meter)
    → (let none : Result A HostErr = Err e in Steps none view act old new before last) → (let none : Result C HostErr = Err e in Steps none other (λ env. after (act env) (next env)) old new before last)
steps_stop e view other act next old new before last one env serves w i j =
    as_fails e other (after (act env) (next env) w) (leaving old new w.trace (λ t. record w { entries = new.map; trace = t; meter = last }))
    (stop (λ _ t. record w { entries = new.map; trace = t; meter = last }) (λ rest _. rest) (Tells old new w.trace) last w.noted (λ _ _. (refl, refl)) e w (act env w) (next env)
    (fails_as e view (act env w) (leaving old new w.trace (λ t. record w { entries = new.map; trace = t; meter = last })) (one env serves w i j)))

-- a step whose value is only viewed in another way
pub steps_view : {A B C D : Type 0} (a : A) (c : C) (view : A → B) (other : C → D) (act : Env → Act B) (of : B → D) (old new : Stored) (before last : Meter) → of (view a) ≡ other c
    → (let given : Result A HostErr = Ok a in Steps given view act old new before last) → (let found : Result C HostErr = Ok c in Steps found other (λ env. after (act env) (λ b. gives (of b))) old new before last)
steps_view {C = C} a c view other act of old new before last e one env serves w i j =
    let found : Result C HostErr = Ok c in
    go_on (λ _ t. record w { entries = new.map; trace = t; meter = last }) (λ _ t. record w { entries = new.map; trace = t; meter = last }) (λ rest _. rest) (Tells old new w.trace) (Tells old new w.trace)
    (λ _ _ _. refl) a found view other w (act env w) (λ b. gives (of b)) (one env serves w i j) (λ _ t told. (told, ap (λ d. Good d (record w { entries = new.map; trace = t; meter = last })) e))
