-- Functions over values, as host functions.
use Rattle.std.specs.Option.{option_map}
use Rattle.std.proofs.Common.{◌≡◌, ℕ, List, true, false, not, is_some, Option, Some, None, Result, Ok, Err, refl, sym, ap, ◌∙◌, subst}
use Rattle.host_interface.specs.declared.import.HostImport.{HostImport}
use Rattle.host_interface.specs.declared.kinds.ArgKind.{ArgKind}
use Rattle.host_spec.specs.Acts as values
use Rattle.host_spec.specs.Ends.{host_end}
use Rattle.host_spec.specs.Indices.{arguments_of}
use Rattle.host_spec.specs.ValueFunctions.{value_rule, value_function}
use Rattle.host_spec.specs.declared.error.HostErr.{HostErr}
use Rattle.host_spec.specs.declared.error.ValueErr.{ValueErr}
use Rattle.host_spec.specs.declared.error.ValueErr.TheVariants as ends
use Rattle.object_store.specs.Shown.{shown_of}
use Rattle.call_spec.specs.World.{Access, World, Env}
use Rattle.call_spec.specs.Acts.{Spent, Out, Bad, world_of, state_of, with_state, lifted}
use Rattle.call_spec.specs.Frames.{Opener}
use Rattle.call_spec.specs.HostFunctions.{world_rule, either, host_function}
use Rattle.call_spec.specs.Outcomes.{quiet, Says, trace_of}
use Rattle.host_ledger.specs.Traced.{leaving}
use Rattle.call_spec.specs.Rules.{Rule, call_of}
use Rattle.call_spec.proofs.Lemmas.{each_has_rule}
use Rattle.host_ledger.specs.Worlds.{world_at}
use Rattle.host_ledger.specs.declared.state.HostLedger.{HostLedger}
use Rattle.host_values.specs.Called.{Calls}
use Rattle.call_host.specs.Worlds.{world_in, with_memory}
use Rattle.call_host.specs.Running.{DoesOver}
use Rattle.call_host.specs.declared.host.Host.{Host}
use Rattle.host_ledger.proofs.Lemmas.{afterwards, tells_equal}
use Rattle.contract_call.proofs.Answering.{traced}
use Rattle.call_host.proofs.Lemmas.{around}

-- the result, with the ends of a host function
abbrev pub ended : {A : Type 0} → Result A ValueErr → Result A HostErr
ended (Ok a) = Ok a
ended (Err e) = Err (host_end e)

lifted_says : {A : Type 0} (r : Result A ValueErr) (out : values.Out A) (w : World) (u : values.State) → values.Says r (λ a. a) out u → Says (ended r) (λ a. a) (lifted w out) (quiet w (λ trace. with_state u w))
lifted_says {A} (Ok a) out w u h =
    let e = ap (lifted w) h in (ap (λ (o : Out A). trace_of o) e, e)
lifted_says {A} (Err (ends.Failed d)) out w u h =
    let e = ap (lifted w) h in (ap (λ (o : Out A). trace_of o) e, e)
lifted_says {A} (Err ends.Spent) out w u h =
    let e = ap (lifted w) h in (ap (λ (o : Out A). trace_of o) e, e ∙ ap (Bad Spent) (sym (ap world_of e)), ap (λ o. (world_of o).meter) e, ap (λ o. (world_of o).noted) e)
lifted_says (Err ends.NoMemory) out w u h = tt

either_says : (ks : List ArgKind) (o : Option (Rule ks)) (v : Option (List ℕ → values.Act ℕ)) (words : List ℕ) (r : Result ℕ ValueErr) (w : World) (u : values.State) → is_some o ≡ false → Calls r v words (state_of w) u
    → Says (ended r) (λ n. n) (either (option_map (call_of ks) o) v words w) (quiet w (λ trace. with_state u w))
either_says ks (Some rule) v words r w u e h = absurd cc
either_says ks None None words r w u e h = absurd h
either_says ks None (Some function) words r w u e h = lifted_says r (function words (state_of w)) w u h

value_says : (i : HostImport) (words : List ℕ) (r : Result ℕ ValueErr) (env : Env) (opener : Opener) (w : World) (u : values.State) → is_some (value_rule i) ≡ true → Calls r (value_function i) words (state_of w) u
    → Says (ended r) (λ n. n) (host_function env opener i words w) (quiet w (λ trace. with_state u w))
value_says i words r env opener w u e h = either_says (arguments_of i) (world_rule env opener i) (value_function i) words r w u (each_has_rule env opener i ∙ ap not e) h

pub values_in : {G V : Type 0} (i : HostImport) (words : List ℕ) (r : Result ℕ ValueErr) (before after : List ℕ) (old new : HostLedger G V)
    → new ≡ record old { objects = new.objects; budget = new.budget; frame = record old.frame { shown = new.frame.shown } } → is_some (value_rule i) ≡ true
    → Calls r (value_function i) words (values.state (shown_of old.objects old.frame.shown) before old.budget) (values.state (shown_of new.objects new.frame.shown) after new.budget)
    → (env : Env) (opener : Opener) (rest : World) (trace : List Access) → rest.frame.memory ≡ before
    → Says (ended r) (λ n. n) (host_function env opener i words (world_at rest old trace)) (leaving old.storage new.storage trace (world_at (with_memory after rest) new))
values_in i words r before after old new kept e h env opener rest trace m =
    let w = world_at rest old trace in
    let u = values.state (shown_of new.objects new.frame.shown) after new.budget in
    let calls = subst (λ (x : List ℕ). Calls r (value_function i) words (values.state (shown_of old.objects old.frame.shown) x old.budget) u) (sym m) h in
    afterwards (ended r) (λ n. n) (host_function env opener i words w) old.storage new.storage trace w (world_at (with_memory after rest) new) (tells_equal old.storage new.storage trace (ap (λ l. l.storage) kept))
    (traced (ended r) (λ n. n) (host_function env opener i words w) (world_at (with_memory after rest) new) (with_state u w) (ap (λ l. world_at (with_memory after rest) l trace) kept) refl refl (value_says i words r env opener w u e calls))

pub values_stop : {G V : Type 0} (error : ValueErr) (e : HostErr) (i : HostImport) (words before after : List ℕ) (old new : HostLedger G V)
    → new ≡ record old { objects = new.objects; budget = new.budget; frame = record old.frame { shown = new.frame.shown } } → is_some (value_rule i) ≡ true
    → (let r : Result ℕ ValueErr = Err error in Calls r (value_function i) words (values.state (shown_of old.objects old.frame.shown) before old.budget) (values.state (shown_of new.objects new.frame.shown) after new.budget))
    → e ≡ host_end error → (env : Env) (opener : Opener) (rest : World) (trace : List Access) → rest.frame.memory ≡ before
    → (let none : Result ℕ HostErr = Err e in Says none (λ n. n) (host_function env opener i words (world_at rest old trace)) (leaving old.storage new.storage trace (world_at (with_memory after rest) new)))
values_stop error e i words before after old new kept rule h is env opener rest trace m =
    subst (λ (x : HostErr). let none : Result ℕ HostErr = Err x in Says none (λ n. n) (host_function env opener i words (world_at rest old trace)) (leaving old.storage new.storage trace (world_at (with_memory after rest) new))) (sym is)
    (values_in i words (Err error) before after old new kept rule h env opener rest trace m)

pub does_over : {G U V : Type 0} (r : Result ℕ HostErr) (i : HostImport) (words before after : List ℕ) (old : Host G U V) (new : HostLedger G V)
    → ((env : Env) (opener : Opener) (rest : World) (trace : List Access) → rest.frame.memory ≡ before
    → Says r (λ n. n) (host_function env opener i words (world_at rest old.ledger trace)) (leaving old.ledger.storage new.storage trace (world_at (with_memory after rest) new)))
    → (opener : Opener) → DoesOver before after r (λ n. n) (λ env. host_function env opener i words) old (around old new)
does_over r i words before after old new h opener env is rest trace m = h env opener (world_in rest old trace) trace m
