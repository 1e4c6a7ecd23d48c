-- Frames: opened, run, closed.
use Rattle.std.proofs.Common.{◌≡◌, ℕ, List, Result, Ok, Err, refl, sym, ap, ◌∙◌, subst}
use Rattle.value_types.specs.Datum.{Datum}
use Rattle.value_types.specs.declared.value.ScVal.{ScVal}
use Rattle.budget_meter.specs.declared.kind.Kind.TheVariants.{InvokeVmFunction}
use Rattle.host_spec.specs.VecRows.{all_given}
use Rattle.host_spec.specs.Words.{meaning as word_meaning}
use Rattle.value_types.specs.Views.{datum}
use Rattle.host_spec.specs.declared.error.HostErr.{HostErr}
use Rattle.call_spec.specs.World.{Access, World, Env}
use Rattle.call_spec.specs.Acts.{Act, Out, Good, then_do, after, gives, lift, paying, world_of}
use Rattle.call_spec.specs.Frames.{HostCalls, Entered, returned_value, writes_instance, started, finished, runs_from, paying_pages}
use Rattle.call_spec.specs.Outcomes.{Leaves, Says, trace_of}
use Rattle.host_ledger.proofs.Lemmas.{ends_then, since}
use Rattle.call_parts.specs.Steps.{Returns}
use Rattle.call_host.specs.Worlds.{world_in, ending, leaving_by, IsEnvOf, DoesIn, RunsIn}
use Rattle.call_host.specs.Framed.{argument_words}
use Rattle.call_host.specs.declared.host.Host.{Host}
use Rattle.call_host.proofs.Beginning.{charges_first}
use Rattle.call_host.proofs.Joining.{Showing, Keeping, Telling, lefts, IsKeeping, stop, same_act, fails_as, as_fails, keep_memory}
use Rattle.call_host.proofs.Showing.{shown_as, telling}
use Rattle.call_host.proofs.Splitting.{joined}

-- the act after an act that gave a value, at the rest that is left
pub go_on_at : {A B C D : Type 0} (mid new : Showing) (keep : Keeping) (first told : Telling) → IsKeeping keep → (a : A) (r : Result C HostErr) (view : A → B) (other : C → D) (rest : World) (out : Out B) (next : B → Act D)
    → (let given : Result A HostErr = Ok a in Says given view out (lefts mid first (keep rest (world_of out))))
    → (let at = keep rest (world_of out) in (trace : List Access) → first trace → Says r other (next (view a) (mid at trace)) (lefts new told (keep at (world_of (next (view a) (mid at trace))))))
    → Says r other (then_do out next) (lefts new told (keep rest (world_of (then_do out next))))
go_on_at mid new keep first told law a r view other rest out next p h =
    let at = keep rest (world_of out) in
    let two = next (view a) (mid at (trace_of out)) in
    let e : then_do out next ≡ two = ap (λ o. then_do o next) p.1 in
    subst (λ o. Says r other o (lefts new told (keep rest (world_of o)))) (sym e)
    (subst (λ z. Says r other two (lefts new told z)) (law rest (world_of out) (world_of two)) (h (trace_of out) p.0))

-- an act that leaves the memory as it was
pub count_both : {A B G U V : Type 0} (r : Result A HostErr) (view : A → B) (rest : World) (out : Out B) (old new : Host G U V) (trace : List Access) → Says r view out (leaving_by old new trace (world_in rest new))
    → Says r view out (leaving_by old new trace (world_in (ending rest out) new))
count_both r view rest out old new trace p =
    shown_as (λ w t. world_in w new t) keep_memory (telling old new trace) new.ledger.budget new.marks.noted (λ _ _. (refl, refl)) r view rest out (λ t. world_in rest new t) (λ t. refl) p

-- ---- the run of a frame's function

started_first : (host : HostCalls) (e : Entered) (w : World) → started host e w ≡ then_do (argument_words e.module_.memories e.args w) (runs_from host e)
started_first host e w =
    let paid = paying_pages e.module_.memories (paying InvokeVmFunction 1 (gives (tt {0}))) w in
    charges_first e.module_.memories (after (lift (all_given e.args)) (λ words. runs_from host e words)) w
    ∙ sym (joined paid (λ _. lift (all_given e.args)) (runs_from host e))
    ∙ ap (λ o. then_do o (runs_from host e)) (sym (charges_first e.module_.memories (lift (all_given e.args)) w))

abbrev ends_so : Env → HostCalls → Entered → List ℕ → Act Datum
ends_so env host e words u = then_do (runs_from host e words u) (finished env)

frame_first : (env : Env) (host : HostCalls) (e : Entered) (w : World) → after (started host e) (finished env) w ≡ then_do (argument_words e.module_.memories e.args w) (ends_so env host e)
frame_first env host e w = ap (λ o. then_do o (finished env)) (started_first host e w) ∙ joined (argument_words e.module_.memories e.args w) (runs_from host e) (finished env)

module _ {G U V : Type 0} (host : Env → HostCalls) (e : Entered) (old : Host G U V) where
  -- its arguments were not shown
  pub not_begun : (x : HostErr) (view : ScVal → Datum) {W : Type 0} (words : W → List ℕ) (h1 : Host G U V) → (let none : Result W HostErr = Err x in DoesIn none words (λ env. argument_words e.module_.memories e.args) old h1)
      → (let r : Result ScVal HostErr = Err x in RunsIn r view (λ env. after (started (host env) e) (finished env)) old h1)
  not_begun x view {W = W} words h1 begun env is rest trace =
      let w = world_in rest old trace in
      let out = argument_words e.module_.memories e.args w in
      let r : Result ScVal HostErr = Err x in
      same_act (λ v t. world_in v h1 t) keep_memory (telling old h1 trace) r view rest (after (started (host env) e) (finished env) w) (then_do out (ends_so env (host env) e)) (frame_first env (host env) e w)
      (as_fails x view (then_do out (ends_so env (host env) e)) (leaving_by old h1 trace (λ t. world_in (keep_memory rest (world_of (then_do out (ends_so env (host env) e)))) h1 t))
      (stop (λ v t. world_in v h1 t) keep_memory (telling old h1 trace) h1.ledger.budget h1.marks.noted (λ _ _. (refl, refl)) x rest out (ends_so env (host env) e)
      (fails_as x words out (leaving_by old h1 trace (λ t. world_in (keep_memory rest (world_of out)) h1 t)) (let none : Result W HostErr = Err x in count_both none words rest out old h1 trace (begun env is rest trace)))))

  module _ {W : Type 0} (given : W) (words : W → List ℕ) (h1 h2 : Host G U V) (begun : (let r : Result W HostErr = Ok given in DoesIn r words (λ env. argument_words e.module_.memories e.args) old h1))
      (later : (env : Env) → IsEnvOf env old → IsEnvOf env h1) where
    -- its code did not return
    pub not_run : (x : HostErr) (view : ScVal → Datum) → (let none : Result ℕ HostErr = Err x in RunsIn none (λ word. word) (λ env. runs_from (host env) e (words given)) h1 h2)
        → (let r : Result ScVal HostErr = Err x in RunsIn r view (λ env. after (started (host env) e) (finished env)) old h2)
    not_run x view ran env is rest trace =
        let w = world_in rest old trace in
        let out = argument_words e.module_.memories e.args w in
        let r : Result ScVal HostErr = Err x in
        same_act (λ v t. world_in v h2 t) keep_memory (telling old h2 trace) r view rest (after (started (host env) e) (finished env) w) (then_do out (ends_so env (host env) e)) (frame_first env (host env) e w)
        (go_on_at (λ v t. world_in v h1 t) (λ v t. world_in v h2 t) keep_memory (telling old h1 trace) (telling old h2 trace) (λ _ _ _. refl) given r words view rest out (ends_so env (host env) e) (let some : Result W HostErr = Ok given in count_both some words rest out old h1 trace (begun env is rest trace))
        (λ t told. let at = keep_memory rest (world_of out) in
        let ran_out = runs_from (host env) e (words given) (world_in at h1 t) in
        let none : Result ℕ HostErr = Err x in
        as_fails x view (then_do ran_out (finished env)) (leaving_by old h2 trace (λ z. world_in (keep_memory at (world_of (then_do ran_out (finished env)))) h2 z))
        (stop (λ v z. world_in v h2 z) keep_memory (telling old h2 trace) h2.ledger.budget h2.marks.noted (λ _ _. (refl, refl)) x at ran_out (finished env)
        (fails_as x (λ (n : ℕ). n) ran_out (leaving_by old h2 trace (λ z. world_in (keep_memory at (world_of ran_out)) h2 z))
        (since none (λ (n : ℕ). n) ran_out old.ledger.storage h1.ledger.storage h2.ledger.storage trace t (λ z. world_in (keep_memory at (world_of ran_out)) h2 z) told (ran env (later env is) at t))))))

    -- it ended
    pub all_run : (word : ℕ) (r : Result ScVal HostErr) (view : ScVal → Datum) (h3 : Host G U V) → ((env : Env) → IsEnvOf env h1 → IsEnvOf env h2)
        → (let given-word : Result ℕ HostErr = Ok word in RunsIn given-word (λ n. n) (λ env. runs_from (host env) e (words given)) h1 h2)
        → RunsIn r view (λ env. finished env word) h2 h3 → RunsIn r view (λ env. after (started (host env) e) (finished env)) old h3
    all_run word r view h3 still ran ended env is rest trace =
        let w = world_in rest old trace in
        let out = argument_words e.module_.memories e.args w in
        same_act (λ v t. world_in v h3 t) keep_memory (telling old h3 trace) r view rest (after (started (host env) e) (finished env) w) (then_do out (ends_so env (host env) e)) (frame_first env (host env) e w)
        (go_on_at (λ v t. world_in v h1 t) (λ v t. world_in v h3 t) keep_memory (telling old h1 trace) (telling old h3 trace) (λ _ _ _. refl) given r words view rest out (ends_so env (host env) e) (let some : Result W HostErr = Ok given in count_both some words rest out old h1 trace (begun env is rest trace))
        (λ t told. let at = keep_memory rest (world_of out) in
        let ran_out = runs_from (host env) e (words given) (world_in at h1 t) in
        let last = keep_memory at (world_of ran_out) in
        let some : Result ℕ HostErr = Ok word in
        go_on_at (λ v z. world_in v h2 z) (λ v z. world_in v h3 z) keep_memory (telling old h2 trace) (telling old h3 trace) (λ _ _ _. refl) word r (λ (n : ℕ). n) view at ran_out (finished env)
        (since some (λ (n : ℕ). n) ran_out old.ledger.storage h1.ledger.storage h2.ledger.storage trace t (λ z. world_in last h2 z) told (ran env (later env is) at t))
        (λ z again. since r view (finished env word (world_in last h2 z)) old.ledger.storage h2.ledger.storage h3.ledger.storage trace z
        (λ y. world_in (keep_memory last (world_of (finished env word (world_in last h2 z)))) h3 y) again (ended env (still env (later env is)) last z))))

-- ---- the end of a frame

-- the instance was not written
pub write_failed : (e : HostErr) (value : ScVal) (env : Env) (word : ℕ) (shown : List Datum) (w : World) (left : Leaves) → w.frame.shown ≡ shown
    → (let some : Result ScVal HostErr = Ok value in Returns some datum (returned_value (word_meaning shown word)))
    → (let none : Result (Unit {0}) HostErr = Err e in Says none (λ u. u) (writes_instance env w) left) → (let none : Result ScVal HostErr = Err e in Says none datum (finished env word w) left)
write_failed e value env word shown w left same given failed =
    let none : Result ScVal HostErr = Err e in
    let is : returned_value (word_meaning w.frame.shown word) w ≡ Good (datum value) w = ap (λ (s : List Datum). returned_value (word_meaning s word) w) same ∙ (given w).1 in
    subst (λ (o : Out Datum). Says none datum (then_do o (λ d. after (writes_instance env) (λ _. gives d))) left) (sym is)
    (ends_then (λ u. u) datum (writes_instance env w) (λ _. gives (datum value)) left e failed)
