-- A frame that is opened, runs, and is closed.
use Rattle.std.proofs.Common.{◌≡◌, ℕ, ◌-◌, List, [], ◌∷◌, ◌++◌, length, take, reverse, Result, Ok, Err, refl, sym, ap, ◌∙◌, subst, arith, length-append, append-nil}
use Rattle.std.proofs.Math.Seq.{take-append_seam}
use Rattle.std.proofs.lemmas.List.{reverse-append}
use Rattle.budget_meter.specs.Meter.{Meter}
use Rattle.value_types.specs.Datum.{Datum}
use Rattle.value_types.specs.Views.{datum}
use Rattle.value_types.specs.declared.hash.Hash.{Hash}
use Rattle.value_types.specs.declared.value.ScVal.{ScVal}
use Rattle.wasm_spec.specs.declared.module.Module.{Module}
use Rattle.wasm_spec.specs.Meaning.{meaning}
use Rattle.wasm_spec.specs.Stores.{Store}
use Rattle.wasm_run.specs.Suspended.{Suspended, Does}
use Rattle.wasm_run.specs.declared.instance.CallPhase.TheVariants as phase
use Rattle.object_store.specs.Shown.{shown_of}
use Rattle.host_spec.specs.declared.error.HostErr.{HostErr}
use Rattle.host_spec.specs.declared.error.HostErr.TheVariants as ends
use Rattle.contract_storage.specs.Stored.{Stored, IsLater}
use Rattle.auth_spec.specs.Authorities.{Authorised, IsLaterState}
use Rattle.auth_trees.proofs.Lemmas.{later_self}
use Rattle.call_spec.specs.World.{AccessKind, Access, Frame, World, Env}
use Rattle.call_spec.specs.Acts.{Act, Failure, Failed, Spent, Archived, Out, Good, Bad, Undeclared, after, world_of}
use Rattle.call_spec.specs.Frames.{Entered, frame_of, started, finished, framed, closed, with_frames}
use Rattle.call_spec.specs.HostFunctions.{host_of, opener_of}
use Rattle.call_spec.specs.Outcomes.{Says, trace_of, stopped_kind}
use Rattle.host_ledger.specs.Worlds.{called_args, copied}
use Rattle.host_ledger.specs.declared.state.InstanceCopy.{InstanceCopy}
use Rattle.host_ledger.specs.declared.state.Frame.{Frame as Frame'}
use Rattle.host_ledger.proofs.Lemmas.{as_storages, later_same}
use Rattle.call_host.specs.Worlds.{contracts_of, at_path, world_in, world_around, ending, uncounted, IsOpened, IsClosed, IsEnvOf, DoesAround, RunsIn, Stays}
use Rattle.call_host.specs.Running.{entered, IsNewFrame, Starts, StaysIn}
use Rattle.call_host.specs.declared.host.Host.{Host}
use Rattle.call_host.specs.declared.host.SuspendedFrame.{SuspendedFrame}
use Rattle.call_host.proofs.Lemmas.{Telling, keep_rest, knowing, same_act, telling}

-- ---- the start of the code

pub started_does : (i new : Suspended) (e : Entered) (slice words : List ℕ) → Starts i e → slice ≡ words → length words ≡ length e.args
    → ((f : ℕ) → i.phase ≡ phase.Fresh f (length slice) → Does new (meaning i.source f slice i.store)) → Does new (meaning e.module_ e.index words e.store)
started_does i new e slice words starts same count does =
    let fresh : i.phase ≡ phase.Fresh e.index (length slice) = starts.phase_ ∙ ap (phase.Fresh e.index) (sym (ap length same ∙ count)) in
    subst (λ ws. Does new (meaning e.module_ e.index ws e.store)) same
    (subst (λ m. Does new (meaning m e.index slice e.store)) starts.module_ (subst (λ s. Does new (meaning i.source e.index slice s)) starts.store_ (does e.index fresh)))

-- ---- the end

closed_bad : {B : Type 0} (f : Frame) (cs : List Hash) (x : Failure) (out : Out B) → out ≡ Bad x (world_of out)
    → (closed f cs out ≡ Bad x (world_of (closed f cs out))) × ((world_of (closed f cs out)).meter ≡ (world_of out).meter) × ((world_of (closed f cs out)).noted ≡ (world_of out).noted)
closed_bad f cs x out p =
    let e : closed f cs out ≡ Bad x (with_frames f cs (world_of out)) = ap (closed f cs) p in
    (e ∙ ap (Bad x) (sym (ap world_of e)), ap (λ o. (world_of o).meter) e, ap (λ o. (world_of o).noted) e)

closed_trace : {B : Type 0} (f : Frame) (cs : List Hash) (x : Failure) (out : Out B) → out ≡ Bad x (world_of out) → trace_of (closed f cs out) ≡ trace_of out
closed_trace {B} f cs x out p =
    let e : closed f cs out ≡ Bad x (with_frames f cs (world_of out)) = ap (closed f cs) p in ap (λ (o : Out B). trace_of o) e

pub closed_says : {A B : Type 0} (f : Frame) (cs : List Hash) (r : Result A HostErr) (view : A → B) (out : Out B) (told : Telling) (left new : List Access → World) → ((t : List Access) → with_frames f cs (left t) ≡ new t)
    → ((t : List Access) → (left t).trace ≡ t) → Says r view out (knowing told left) → Says r view (closed f cs out) (knowing told new)
closed_says f cs (Ok a) view out told left new h tr p =
    let e : closed f cs out ≡ Good (view a) (with_frames f cs (left (trace_of out))) = ap (closed f cs) p.1 in
    let same : trace_of (closed f cs out) ≡ trace_of out = ap trace_of e ∙ tr (trace_of out) in
    (subst told (sym same) p.0, e ∙ ap (Good (view a)) (h (trace_of out) ∙ ap new (sym same)))
closed_says f cs (Err (ends.Failed d)) view out told left new h tr p =
    let e : closed f cs out ≡ Bad (Failed d) (with_frames f cs (left (trace_of out))) = ap (closed f cs) p.1 in
    let same : trace_of (closed f cs out) ≡ trace_of out = ap trace_of e ∙ tr (trace_of out) in
    (subst told (sym same) p.0, e ∙ ap (Bad (Failed d)) (h (trace_of out) ∙ ap new (sym same)))
closed_says {B = B} f cs (Err ends.Spent) view out told left new h tr p =
    let c = closed_bad f cs Spent out p.1 in (subst told (sym (closed_trace f cs Spent out p.1)) p.0, c.0, c.1 ∙ p.2 ∙ ap (λ (w : World). w.meter) (h []), c.2 ∙ p.3 ∙ ap (λ (w : World). w.noted) (h []))
closed_says {B = B} f cs (Err (ends.Archived key)) view out told left new h tr p =
    let c = closed_bad f cs (Archived key) out p.1 in (subst told (sym (closed_trace f cs (Archived key) out p.1)) p.0, c.0, c.1 ∙ p.2 ∙ ap (λ (w : World). w.meter) (h []), c.2 ∙ p.3 ∙ ap (λ (w : World). w.noted) (h []))
closed_says {B = B} f cs (Err (ends.Undeclared key)) view out told left new h tr p =
    let at : AccessKind → Meter → World → Out B = λ kind meter w. Undeclared (record { kind = kind; key = key; used = meter.used }) w in
    let m : (left []).meter ≡ (new []).meter = ap (λ (w : World). w.meter) (h []) in
    let e : closed f cs out ≡ at (stopped_kind out) (left []).meter (with_frames f cs (world_of out)) = ap (closed f cs) p.1 in (
      subst told (sym (ap trace_of e)) p.0,
      e ∙ ap (λ k. at k (left []).meter (with_frames f cs (world_of out))) (sym (ap stopped_kind e)) ∙ ap (λ z. at (stopped_kind (closed f cs out)) z (with_frames f cs (world_of out))) m
          ∙ ap (at (stopped_kind (closed f cs out)) (new []).meter) (sym (ap world_of e)),
      ap (λ o. (world_of o).meter) e ∙ p.2 ∙ m,
    )
closed_says f cs (Err ends.NoMemory) view out told left new h tr p = tt

-- ---- the frame

reversed : (xs : List Hash) (c : Hash) → reverse (xs ++ c ∷ []) ≡ c ∷ reverse xs
reversed xs c = reverse-append xs (c ∷ [])

last_off : (xs ys : List Hash) (c : Hash) → ys ≡ xs ++ c ∷ [] → take (length ys - 1) ys ≡ xs
last_off xs ys c e =
    let n : length ys - 1 ≡ length xs = omega (arith, ap length e, length-append xs (c ∷ [])) in
    ap (λ k. take k ys) n ∙ ap (take (length xs)) e ∙ take-append_seam xs (c ∷ [])

module _ (frame : Frame') (fresh : IsNewFrame frame) (m : Module) (index : ℕ) (store : Store) where
  abbrev this : Entered
  this = entered frame m index store

  start_is : {G U V : Type 0} (old h1 : Host G U V) (rest : World) (trace : List Access) → IsOpened frame old h1 → h1.open.items ≡ old.open.items ++ frame.contract ∷ []
      → with_frames (frame_of this) (this.contract ∷ contracts_of old) (world_around rest old trace) ≡ world_in (record rest { frame = frame_of this }) h1 trace
  start_is {G} {U} {V} old h1 rest trace is pushed =
      let at : Hash → InstanceCopy → List Datum → List Hash → ℕ → World = λ code first shown cs begun. record rest {
        entries = old.ledger.storage.map;
        events = old.ledger.events;
        pairs = old.marks.pairs;
        noted = old.marks.noted;
        frame = record (frame_of this) { code = code; first = copied first; shown = shown; begun = begun };
        contracts = cs;
        trace = trace;
        meter = old.ledger.budget;
      } in
      ap (λ x. at x frame.copy [] (frame.contract ∷ contracts_of old) 0) (sym fresh.code)
      ∙ ap (λ x. at frame.code x [] (frame.contract ∷ contracts_of old) 0) (sym fresh.first)
      ∙ ap (λ x. at frame.code frame.first x (frame.contract ∷ contracts_of old) 0) (sym (ap (shown_of []) fresh.shown))
      ∙ ap (λ x. at frame.code frame.first (shown_of [] frame.shown) x 0) (sym (ap reverse pushed ∙ reversed old.open.items frame.contract))
      ∙ ap (at frame.code frame.first (shown_of [] frame.shown) (contracts_of h1)) (sym fresh.begun)
      ∙ ap (λ (h : Host G U V). world_in (record rest { frame = frame_of this }) h trace) (sym is)

  end_is : {G U V : Type 0} (old h2 h3 : Host G U V) (rest mid : World) (t : List Access) → IsClosed old.ledger.objects old.ledger.frame h2 h3 → contracts_of h3 ≡ contracts_of old
      → with_frames (at_path old.ledger.frame rest.frame) (contracts_of old) (world_in mid h2 t) ≡ world_around rest h3 t
  end_is {G} {U} {V} old h2 h3 rest mid t is pushed =
      let at : List Hash → World = λ cs. record rest {
        entries = h2.ledger.storage.map;
        events = h2.ledger.events;
        pairs = h2.marks.pairs;
        noted = h2.marks.noted;
        frame = at_path old.ledger.frame rest.frame;
        contracts = cs;
        trace = t;
        meter = h2.ledger.budget;
      } in
      ap at (sym pushed) ∙ ap (λ (h : Host G U V). world_around rest h t) (sym is)

  env_opened : {G U V : Type 0} (old h1 : Host G U V) (env : Env) → IsOpened frame old h1 → IsEnvOf env old → IsEnvOf env h1
  env_opened {G} {U} {V} old h1 env is at =
      subst (λ (h : Host G U V). IsEnvOf env h) (sym is) (record { ledger = record { header = at.ledger.header; serves = at.ledger.serves }; authority = at.authority })

  pub framed_does : {G U V : Type 0} (room : ℕ) (r : Result ScVal HostErr) (old h1 h2 h3 : Host G U V) → IsOpened frame old h1 → h1.open.items ≡ old.open.items ++ frame.contract ∷ [] → StaysIn h1 h2
      → RunsIn r datum (λ env. after (started (host_of env (opener_of env room) m) this) (finished env)) h1 h2 → IsClosed old.ledger.objects old.ledger.frame h2 h3
      → h3.open.items ≡ take (length h2.open.items - 1) h2.open.items → DoesAround r datum (λ env. framed env (host_of env (opener_of env room)) this) old h3
  framed_does {G} {U} {V} room r old h1 h2 h3 opened pushed stays inside closing open3 env is rest trace =
      let host = host_of env (opener_of env room) in
      let act : Act Datum = after (started (host m) this) (finished env) in
      let w = world_around rest old trace in
      let rest_in : World = record rest { frame = frame_of this } in
      let out_in = act (world_in rest_in h1 trace) in
      let outer = at_path old.ledger.frame rest.frame in
      let out = closed outer (contracts_of old) out_in in
      let cs : contracts_of h3 ≡ contracts_of old = ap reverse (open3 ∙ last_off old.open.items h2.open.items frame.contract (stays.contracts ∙ pushed)) in
      same_act (λ v t. world_around v h3 t) keep_rest (telling old h3 trace) r datum rest (framed env host this w) out
      (ap (λ z. closed outer (contracts_of old) (act z)) (start_is old h1 rest trace opened pushed))
      (as_storages r datum out h1.ledger.storage h2.ledger.storage old.ledger.storage h3.ledger.storage trace (world_around rest h3) (ap (λ (h : Host G U V). h.ledger.storage) opened)
      (sym (ap (λ (h : Host G U V). h.ledger.storage) closing))
      (closed_says outer (contracts_of old) r datum out_in (telling h1 h2 trace) (λ t. world_in (ending rest_in out_in) h2 t) (λ t. world_around rest h3 t)
      (λ t. end_is old h2 h3 rest (ending rest_in out_in) t closing cs) (λ t. refl) (inside env (env_opened old h1 env opened is) rest_in trace)))

-- the arguments of the frame that was opened
pub opened_args : {G U V : Type 0} (frame : Frame') (old h1 : Host G U V) → IsOpened frame old h1 → called_args h1.ledger.frame.function ≡ called_args frame.function
opened_args {G} {U} {V} frame old h1 is = ap (λ (h : Host G U V). called_args h.ledger.frame.function) is

-- the frame that waited is the one around
pub closes : {G U V : Type 0} (old h2 h3 : Host G U V) (suspended : SuspendedFrame) → suspended.objects ≡ old.ledger.objects → suspended.frame ≡ old.ledger.frame → IsClosed suspended.objects suspended.frame h2 h3
    → IsClosed old.ledger.objects old.ledger.frame h2 h3
closes old h2 h3 suspended objects frame closed =
    subst (λ (f : Frame'). IsClosed old.ledger.objects f h2 h3) frame (subst (λ (o : List Datum). IsClosed o suspended.frame h2 h3) objects closed)

-- ---- the state

-- a state that stayed, but for the room of its list of contracts
pub stays_equal : {G U V : Type 0} (old new : Host G U V) → new ≡ record old { «open» = new.open } → new.open.items ≡ old.open.items → Stays old new
stays_equal {G} {U} {V} old new is same =
    let at : Host G U V = record old { «open» = new.open } in
    subst (λ (h : Host G U V). Stays old h) (sym is) (record {
      header = refl;
      storage = later_same old.ledger.storage old.ledger.storage refl;
      events = ([], sym (append-nil old.ledger.events));
      objects = refl;
      frame = refl;
      contracts = same;
      marks = later_self old.marks;
      verdicts = refl;
    })

-- what a frame of its own leaves to the one around it
pub frame_stays : {G U V : Type 0} (frame : Frame') (old h1 h2 h3 : Host G U V) → IsOpened frame old h1 → h1.open.items ≡ old.open.items ++ frame.contract ∷ [] → StaysIn h1 h2
    → IsClosed old.ledger.objects old.ledger.frame h2 h3 → h3.open.items ≡ take (length h2.open.items - 1) h2.open.items → Stays old h3
frame_stays {G} {U} {V} frame old h1 h2 h3 opened pushed stays closed popped =
    record {
      header = ap (λ (h : Host G U V). h.ledger.header.now) closed ∙ stays.left.header ∙ ap (λ (h : Host G U V). h.ledger.header.now) opened;
      storage = subst (λ (s : Stored). IsLater s h3.ledger.storage) (ap (λ (h : Host G U V). h.ledger.storage) opened) (subst (λ (s : Stored). IsLater h1.ledger.storage s) (sym (ap (λ (h : Host G U V). h.ledger.storage) closed)) stays.left.storage);
      events = (stays.left.events.0, ap (λ (h : Host G U V). h.ledger.events) closed ∙ stays.left.events.1 ∙ ap (λ x. x ++ stays.left.events.0) (ap (λ (h : Host G U V). h.ledger.events) opened));
      objects = ap (λ (h : Host G U V). h.ledger.objects) closed;
      frame = ap (λ (h : Host G U V). uncounted h.ledger.frame) closed;
      contracts = popped ∙ last_off old.open.items h2.open.items frame.contract (stays.contracts ∙ pushed);
      marks = subst (λ (s : Authorised). IsLaterState s h3.marks) (ap (λ (h : Host G U V). h.marks) opened) (subst (λ (s : Authorised). IsLaterState h1.marks s) (sym (ap (λ (h : Host G U V). h.marks) closed)) stays.marks);
      verdicts = ap (λ (h : Host G U V). h.verdicts.now) closed ∙ stays.verdicts ∙ ap (λ (h : Host G U V). h.verdicts.now) opened;
    }
