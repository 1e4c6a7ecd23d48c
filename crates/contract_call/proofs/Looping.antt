-- The run of a frame's code, from one call of the host to the next.
use Rattle.std.proofs.Common.{◌≡◌, ℕ, List, [], ◌++◌, length, take, drop, append_assoc, arith, Option, Some, Result, Ok, Err, refl, sym, ap, ◌∙◌, subst}
use Rattle.std.proofs.lemmas.Grind.{common_steps}
use Rattle.std.proofs.Math.Seq.{take-append_seam}
use Rattle.std.specs.List.{refill}
use Rattle.budget_meter.specs.Meter.{Meter}
use Rattle.value_types.specs.declared.error.ScError.{ScError}
use Rattle.value_types.specs.declared.error.ScError.TheVariants as errors
use Rattle.wasm_spec.specs.declared.values.TrapKind.{TrapKind}
use Rattle.wasm_spec.specs.declared.values.TrapKind.TheVariants.{Unreachable, OutOfBounds, Arithmetic, IndirectType, EmptyElement, CallDepth}
use Rattle.wasm_spec.specs.declared.module.Module.{Module}
use Rattle.wasm_spec.specs.Runs.{Run, Normal, Branch, Return, Trap, Spent as SpentRun, Stuck, Ask}
use Rattle.wasm_run.specs.Suspended.{Suspended, Does, Awaits, Tells}
use Rattle.wasm_run.specs.Traps as traps
use Rattle.wasm_run.specs.declared.instance.Event.{Event}
use Rattle.wasm_run.specs.declared.instance.Event.TheVariants as event
use Rattle.host_interface.specs.Rows.{Row}
use Rattle.module_spec.specs.Loading.{row_at}
use Rattle.auth_spec.specs.Noted.{Notes}
use Rattle.host_spec.specs.declared.error.HostErr.{HostErr}
use Rattle.host_spec.specs.declared.error.HostErr.TheVariants as ends
use Rattle.call_spec.specs.World.{Access, World, Env}
use Rattle.call_spec.specs.Acts.{Act, Failed, Spent, Out, Good, Bad, Undeclared, world_of, then_do}
use Rattle.call_spec.specs.Frames.{HostCalls, metered, runs, trap_code}
use Rattle.call_spec.specs.HostFunctions.{host_function, host_of, of_row, opener_of}
use Rattle.call_spec.specs.Outcomes.{Says, trace_of, stopped_kind}
use Rattle.host_ledger.specs.Traced.{Tells as Tells'}
use Rattle.host_ledger.specs.Worlds.{at_start}
use Rattle.host_ledger.specs.declared.state.Frame.{Frame}
use Rattle.host_ledger.proofs.Lemmas.{later_same, retold, serves_later}
use Rattle.call_host.specs.Worlds.{authority_of, world_in, ending, leaving_by, IsEnvOf}
use Rattle.contract_storage.proofs.Lemmas.{again}
use Rattle.call_host.specs.Worlds.{MayRun}
use Rattle.call_host.specs.Running.{DoesOver, StaysIn}
use Rattle.auth_spec.specs.Authorities.{Authorised, IsLaterState}
use Rattle.auth_trees.proofs.Lemmas.{later_self, later_twice}
use Rattle.call_host.specs.declared.host.Host.{Host}
use Rattle.call_host.specs.Paths.{IsPathFor, HasRoom}
use Rattle.call_host.proofs.Lemmas.{Telling, keep_memory, knowing, says_stopped, shown_as, telling, traced}

-- the rest with another linear memory
abbrev pub kept : List ℕ → World → World
kept memory rest = record rest { frame = record rest.frame { memory = memory } }

-- The run from the start is the run from here on.
abbrev pub Follows : {G U V : Type 0} → Module → ℕ → Suspended → Host G U V → Suspended → Host G U V → Type 0
Follows m room i0 h0 i h = (go : Meter → Run) → Does i0 go → (next : (Meter → Run)) × Does i next
    × ((env : Env) → IsEnvOf env h0 → (rest : World) (trace : List Access) → (memory : List ℕ) × (t : List Access)
    × Tells' h0.ledger.storage h.ledger.storage trace t
    × (runs (host_of env (opener_of env room) m) (go h0.ledger.budget) (world_in rest h0 trace) ≡ runs (host_of env (opener_of env room) m) (next h.ledger.budget) (world_in (kept memory rest) h t)))

pub follows_first : {G U V : Type 0} (m : Module) (room : ℕ) (i : Suspended) (h : Host G U V) → Follows m room i h i h
follows_first m room i h go does = (go, does, λ env is rest trace. (rest.frame.memory, trace, (λ told. told), refl))

-- ---- events

pub asked : (r : Run) (f : ℕ) (words : List ℕ) (b : Meter) (i : Suspended) → Tells r (event.HostCall f words) b i
    → (on : (ℕ → List ℕ → Meter → Run)) × (r ≡ Ask f words i.store.memory.bytes b on) × Awaits i on
asked (Ask g args memory meter on) f words b i (a, c, d, e, awaits) =
    let at : ℕ → List ℕ → List ℕ → Meter → Run = λ g args memory meter. Ask g args memory meter on in
    (on, ap (λ x. at x args memory meter) (sym a) ∙ ap (λ x. at f x memory meter) (sym c) ∙ ap (λ x. at f words x meter) (sym d) ∙ ap (at f words i.store.memory.bytes) (sym e), awaits)
asked (Normal ops s) f words b i h = absurd h
asked (Trap kind meter) f words b i h = absurd h
asked (SpentRun meter) f words b i h = absurd h
asked (Branch k ops s) f words b i h = absurd h
asked (Return ops s) f words b i h = absurd h
asked Stuck f words b i h = absurd h

done_is : (host : HostCalls) (r : Run) (n : ℕ) (b : Meter) (i : Suspended) (w : World) → Tells r (event.Done n) b i → runs host r w ≡ Good n (metered b w)
done_is host (Normal ops s) n b i w (a, c) = ap (λ x. runs host (Normal x s) w) a ∙ ap (λ z. Good n (metered z w)) (sym c)
done_is host (Ask g args memory meter on) n b i w h = absurd h
done_is host (Trap kind meter) n b i w h = absurd h
done_is host (SpentRun meter) n b i w h = absurd h
done_is host (Branch k ops s) n b i w h = absurd h
done_is host (Return ops s) n b i w h = absurd h
done_is host Stuck n b i w h = absurd h

same_trap : (kind : TrapKind) → errors.WasmVm (trap_code kind) ≡ traps.trap_error kind
same_trap Unreachable = refl
same_trap OutOfBounds = refl
same_trap Arithmetic = refl
same_trap IndirectType = refl
same_trap EmptyElement = refl
same_trap CallDepth = refl

trap_is : (host : HostCalls) (r : Run) (k : TrapKind) (b : Meter) (i : Suspended) (w : World) → Tells r (event.Trap k) b i → runs host r w ≡ Bad (Failed (traps.trap_error k)) (metered b w)
trap_is host (Trap kind meter) k b i w (a, c) =
    ap (λ e. Bad (Failed e) (metered meter w)) (same_trap kind) ∙ ap (λ x. Bad (Failed (traps.trap_error x)) (metered meter w)) (sym a) ∙ ap (λ z. Bad (Failed (traps.trap_error k)) (metered z w)) (sym c)
trap_is host (Normal ops s) k b i w h = absurd h
trap_is host (Ask g args memory meter on) k b i w h = absurd h
trap_is host (SpentRun meter) k b i w h = absurd h
trap_is host (Branch n ops s) k b i w h = absurd h
trap_is host (Return ops s) k b i w h = absurd h
trap_is host Stuck k b i w h = absurd h

spent_is : (host : HostCalls) (r : Run) (b : Meter) (i : Suspended) (w : World) → Tells r event.Spent b i → runs host r w ≡ Bad Spent (metered b w)
spent_is host (SpentRun meter) b i w a = ap (λ z. Bad Spent (metered z w)) (sym a)
spent_is host (Normal ops s) b i w h = absurd h
spent_is host (Ask g args memory meter on) b i w h = absurd h
spent_is host (Trap kind meter) b i w h = absurd h
spent_is host (Branch n ops s) b i w h = absurd h
spent_is host (Return ops s) b i w h = absurd h
spent_is host Stuck b i w h = absurd h

-- ---- ends

end_says : {A G U V : Type 0} (r : Result A HostErr) (view : A → ℕ) (rest : World) (memory : List ℕ) (t : List Access) (told : Telling) (h : Host G U V) (out : Out ℕ)
    → Says r view out (knowing told (λ trace. world_in (kept memory rest) h t)) → Says r view out (knowing told (world_in (ending rest out) h))
end_says r view rest memory t told h out p =
    shown_as (λ w z. world_in w h z) keep_memory told h.ledger.budget h.marks.noted (λ _ _. (refl, refl)) r view rest out (λ z. world_in (kept memory rest) h z) (λ z. refl) (traced r view out told (world_in (kept memory rest) h t) p)

abbrev pub paid : {G U V : Type 0} → Host G U V → Meter → Host G U V
paid h b = record h { ledger = record h.ledger { budget = b } }

env_paid : {G U V : Type 0} (h : Host G U V) (b : Meter) (env : Env) → IsEnvOf env h → IsEnvOf env (paid h b)
env_paid h b env is = record { ledger = record { header = is.ledger.header; serves = is.ledger.serves }; authority = is.authority }

-- the run ended in the frame, as the result says
abbrev pub EndsRun : {G U V : Type 0} → Module → ℕ → Suspended → Host G U V → Result ℕ HostErr → Host G U V → Type 0
EndsRun m room i0 h0 r h = (go : Meter → Run) → Does i0 go → (env : Env) → IsEnvOf env h0 → (rest : World) (trace : List Access)
    → (let out = runs (host_of env (opener_of env room) m) (go h0.ledger.budget) (world_in rest h0 trace) in Says r (λ word. word) out (leaving_by h0 h trace (world_in (ending rest out) h)))

-- what an event tells of an instance's runs, with these budgets
abbrev pub Told : Suspended → Meter → Event → Meter → Suspended → Type 0
Told i before e b after = (go : Meter → Run) → Does i go → Tells (go before) e b after

pub run_done : {G U V : Type 0} (m : Module) (room : ℕ) (i0 i after : Suspended) (h0 h : Host G U V) (n : ℕ) (b : Meter) → Follows m room i0 h0 i h
    → ((go : Meter → Run) → Does i go → Tells (go h.ledger.budget) (event.Done n) b after) → EndsRun m room i0 h0 (Ok n) (paid h b)
run_done m room i0 i after h0 h n b follows tells go does env is rest trace =
    let f = follows go does in
    let at = f.2 env is rest trace in
    let host = host_of env (opener_of env room) m in
    let r : Result ℕ HostErr = Ok n in
    let e = at.3 ∙ done_is host (f.0 h.ledger.budget) n b after (world_in (kept at.0 rest) h at.1) (tells f.0 f.1) in
    end_says r (λ word. word) rest at.0 at.1 (telling h0 h trace) (paid h b) _ (subst (telling h0 h trace) (sym (ap (λ (o : Out ℕ). trace_of o) e)) at.2, e)

pub run_trapped : {G U V : Type 0} (m : Module) (room : ℕ) (i0 i after : Suspended) (h0 h : Host G U V) (k : TrapKind) (b : Meter) (e : ScError) → e ≡ traps.trap_error k → Follows m room i0 h0 i h
    → ((go : Meter → Run) → Does i go → Tells (go h.ledger.budget) (event.Trap k) b after) → EndsRun m room i0 h0 (Err (ends.Failed e)) (paid h b)
run_trapped m room i0 i after h0 h k b e is-trap follows tells go does env is rest trace =
    let f = follows go does in
    let at = f.2 env is rest trace in
    let host = host_of env (opener_of env room) m in
    let r : Result ℕ HostErr = Err (ends.Failed e) in
    let e = at.3 ∙ trap_is host (f.0 h.ledger.budget) k b after (world_in (kept at.0 rest) h at.1) (tells f.0 f.1) ∙ ap (λ x. Bad (Failed x) (world_in (kept at.0 rest) (paid h b) at.1)) (sym is-trap) in
    end_says r (λ word. word) rest at.0 at.1 (telling h0 h trace) (paid h b) _ (subst (telling h0 h trace) (sym (ap (λ (o : Out ℕ). trace_of o) e)) at.2, e)

pub run_spent : {G U V : Type 0} (m : Module) (room : ℕ) (i0 i after : Suspended) (h0 h : Host G U V) (b : Meter) → Follows m room i0 h0 i h
    → ((go : Meter → Run) → Does i go → Tells (go h.ledger.budget) event.Spent b after) → EndsRun m room i0 h0 (Err ends.Spent) (paid h b)
run_spent m room i0 i after h0 h b follows tells go does env is rest trace =
    let f = follows go does in
    let at = f.2 env is rest trace in
    let host = host_of env (opener_of env room) m in
    let r : Result ℕ HostErr = Err ends.Spent in
    let e = at.3 ∙ spent_is host (f.0 h.ledger.budget) b after (world_in (kept at.0 rest) h at.1) (tells f.0 f.1) in
    end_says r (λ word. word) rest at.0 at.1 (telling h0 h trace) (paid h b) _
    (subst (telling h0 h trace) (sym (ap (λ (o : Out ℕ). trace_of o) e)) at.2, e ∙ ap (Bad Spent) (sym (ap world_of e)), ap (λ o. (world_of o).meter) e, ap (λ o. (world_of o).noted) e)

-- ---- calls of the host

-- the act of the import that is called
row_act : (env : Env) (room : ℕ) (m : Module) (f : ℕ) (row : Row) (words : List ℕ) (w : World) → row_at m f ≡ Some row
    → host_of env (opener_of env room) m f words w ≡ host_function env (opener_of env room) row.import words w
row_act env room m f row words w e = ap (λ x. of_row env (opener_of env room) x words w) e

abbrev pub Answers : {G U V : Type 0} → List ℕ → List ℕ → ℕ → Row → List ℕ → Result ℕ HostErr → Host G U V → Host G U V → Type 0
Answers before after room row words r old new = DoesOver before after r (λ word. word) (λ env. host_function env (opener_of env room) row.import words) old new

pub run_answered : {G U V : Type 0} (m : Module) (room : ℕ) (i0 i i1 i2 : Suspended) (h0 h h2 : Host G U V) (b : Meter) (f : ℕ) (words : List ℕ) (row : Row) (word : ℕ) (before after : List ℕ) → Follows m room i0 h0 i h
    → ((go : Meter → Run) → Does i go → Tells (go h.ledger.budget) (event.HostCall f words) b i1) → row_at m f ≡ Some row → i1.store.memory.bytes ≡ before
    → ((on : ℕ → List ℕ → Meter → Run) → Awaits i1 on → Does i2 (on word after)) → ((env : Env) → IsEnvOf env h0 → IsEnvOf env h)
    → Answers before after room row words (Ok word) (paid h b) h2 → Follows m room i0 h0 i2 h2
run_answered m room i0 i i1 i2 h0 h h2 b f words row word before after follows tells named same given later answer go does =
    let f0 = follows go does in
    let q = asked (f0.0 h.ledger.budget) f words b i1 (tells f0.0 f0.1) in (
      q.0 word after,
      given q.0 q.2,
      λ env is rest trace.
          let at = f0.2 env is rest trace in
          let host = host_of env (opener_of env room) m in
          let next : ℕ → Act ℕ = λ x u. runs host (q.0 x u.frame.memory u.meter) u in
          let w = world_in (kept at.0 rest) h at.1 in
          let waiting = kept i1.store.memory.bytes rest in
          let out = host_function env (opener_of env room) row.import words (world_in waiting (paid h b) at.1) in
          let says = answer env (env_paid h b env (later env is)) waiting at.1 same in (
            after,
            trace_of out,
            (λ told. says.0 (at.2 told)),
            at.3 ∙ ap (λ r. runs host r w) q.1 ∙ ap (λ o. then_do o next) (row_act env room m f row words (world_in waiting (paid h b) at.1) named ∙ says.1),
          ),
    )

fixed_left : {A B : Type 0} (r : Result A HostErr) (view : A → B) (out : Out B) (told : Telling) (left : List Access → World) (m : Meter) (n : Option Notes) → ((t : List Access) → ((left t).meter ≡ m) × ((left t).noted ≡ n)) → Says r view out (knowing told left)
    → Says r view out (knowing told (λ _. left (trace_of out)))
fixed_left (Ok a) view out told left m n pays p = p
fixed_left (Err (ends.Failed d)) view out told left m n pays p = p
fixed_left (Err ends.Spent) view out told left m n pays p = (p.0, p.1, p.2 ∙ (pays []).0 ∙ sym (pays (trace_of out)).0, p.3 ∙ (pays []).1 ∙ sym (pays (trace_of out)).1)
fixed_left (Err (ends.Archived key)) view out told left m n pays p = (p.0, p.1, p.2 ∙ (pays []).0 ∙ sym (pays (trace_of out)).0, p.3 ∙ (pays []).1 ∙ sym (pays (trace_of out)).1)
fixed_left {B = B} (Err (ends.Undeclared key)) view out told left m n pays p =
    let e = (pays []).0 ∙ sym (pays (trace_of out)).0 in
    let at : Meter → Out B = λ z. Undeclared (record { kind = stopped_kind out; key = key; used = z.used }) (world_of out) in
    (p.0, p.1 ∙ ap at e, p.2 ∙ e)
fixed_left (Err ends.NoMemory) view out told left m n pays p = tt

pub run_refused : {G U V : Type 0} (m : Module) (room : ℕ) (i0 i i1 : Suspended) (h0 h h2 : Host G U V) (b : Meter) (f : ℕ) (words : List ℕ) (row : Row) (e : HostErr) (before after : List ℕ) → Follows m room i0 h0 i h
    → ((go : Meter → Run) → Does i go → Tells (go h.ledger.budget) (event.HostCall f words) b i1) → row_at m f ≡ Some row → i1.store.memory.bytes ≡ before
    → ((env : Env) → IsEnvOf env h0 → IsEnvOf env h) → Answers before after room row words (Err e) (paid h b) h2 → EndsRun m room i0 h0 (Err e) h2
run_refused m room i0 i i1 h0 h h2 b f words row e before after follows tells named same later answer go does env is rest trace =
    let f0 = follows go does in
    let q = asked (f0.0 h.ledger.budget) f words b i1 (tells f0.0 f0.1) in
    let at = f0.2 env is rest trace in
    let host = host_of env (opener_of env room) m in
    let next : ℕ → Act ℕ = λ x u. runs host (q.0 x u.frame.memory u.meter) u in
    let w = world_in (kept at.0 rest) h at.1 in
    let waiting = kept i1.store.memory.bytes rest in
    let out = host_function env (opener_of env room) row.import words (world_in waiting (paid h b) at.1) in
    let whole = runs host (go h0.ledger.budget) (world_in rest h0 trace) in
    let says = answer env (env_paid h b env (later env is)) waiting at.1 same in
    let r : Result ℕ HostErr = Err e in
    let left = world_in (kept after rest) h2 (trace_of out) in
    let first = telling (paid h b) h2 at.1 in
    end_says r (λ word. word) rest after (trace_of out) (telling h0 h2 trace) h2 whole
    (retold r (λ word. word) whole (λ _. left) first (telling h0 h2 trace) (λ z other told. other (at.2 told))
    (says_stopped (λ (word : ℕ). word) (λ (word : ℕ). word) e next out whole first left
    (at.3 ∙ ap (λ r. runs host r w) q.1 ∙ ap (λ o. then_do o next) (row_act env room m f row words (world_in waiting (paid h b) at.1) named))
    (fixed_left r (λ word. word) out first (λ t. world_in (kept after rest) h2 t) h2.ledger.budget h2.marks.noted (λ _. (refl, refl)) says)))

-- ---- the state

-- the path stays
pub still_room : {G U V : Type 0} (room : ℕ) (old new : Host G U V) → at_start new.ledger.frame ≡ at_start old.ledger.frame → HasRoom room old → HasRoom room new
still_room room old new is h = subst (λ (f : Frame). IsPathFor f.path.items room) (sym is) h

-- entries and source stay as marks are added
pub same_authority : {G U V : Type 0} (old new : Host G U V) → IsLaterState old.marks new.marks → new.verdicts.now ≡ old.verdicts.now → authority_of old ≡ authority_of new
same_authority old new later verdicts =
    ap (λ (s : Authorised). record (authority_of old) { entries = s.entries; source = s.source }) (sym later.rest) ∙ ap (λ v. record (authority_of new) { verdicts = v }) (sym verdicts)

pub stays_twice : {G U V : Type 0} (h0 h h2 : Host G U V) (b : Meter) → StaysIn h0 h → StaysIn (paid h b) h2 → StaysIn h0 h2
stays_twice h0 h h2 b one two = record {
  left = record {
    header = two.left.header ∙ one.left.header;
    storage = again h0.ledger.storage h.ledger.storage h2.ledger.storage one.left.storage two.left.storage;
    events = (one.left.events.0 ++ two.left.events.0, two.left.events.1 ∙ ap (λ x. x ++ two.left.events.0) one.left.events.1 ∙ append_assoc h0.ledger.events one.left.events.0 two.left.events.0);
    frame = two.left.frame ∙ one.left.frame;
  };
  contracts = two.contracts ∙ one.contracts;
  marks = later_twice h0.marks h.marks h2.marks one.marks two.marks;
  verdicts = two.verdicts ∙ one.verdicts;
  ready = two.ready;
}

pub stays_same : {G U V : Type 0} (h : Host G U V) → MayRun h → StaysIn h h
stays_same h ready = record {
  left = record {
    header = refl;
    storage = later_same h.ledger.storage h.ledger.storage refl;
    events = ([], grind (arith, common_steps));
    frame = refl;
  };
  contracts = refl;
  marks = later_self h.marks;
  verdicts = refl;
  ready = ready;
}

pub may_pay : {G U V : Type 0} (h : Host G U V) (b : Meter) → MayRun h → MayRun (paid h b)
may_pay h b ready = record {
  ledger = record { bounds = ready.ledger.bounds; number = ready.ledger.number; lives = ready.ledger.lives; indices = ready.ledger.indices; copy = ready.ledger.copy };
  called = ready.called;
  entries = ready.entries;
}

pub env_in : {G U V : Type 0} (old new : Host G U V) → StaysIn old new → (env : Env) → IsEnvOf env old → IsEnvOf env new
env_in old new stays env is = record {
  ledger = record { header = is.ledger.header ∙ sym stays.left.header; serves = serves_later env old.ledger.storage new.ledger.storage stays.left.storage is.ledger.serves };
  authority = is.authority ∙ same_authority old new stays.marks stays.verdicts;
}

-- a memory of the same size is the whole memory
pub refilled : (xs ws : List ℕ) → length ws ≡ length xs → refill (length xs) xs ws ≡ ws
refilled xs ws e = ap (λ n. take n (ws ++ drop (length ws) xs)) (sym e) ∙ take-append_seam ws (drop (length ws) xs)
