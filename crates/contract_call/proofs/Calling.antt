-- Calls, from the target to the frame.
use Rattle.std.proofs.Common.{◌≡◌, ℕ, zero, suc, ◌-◌, ◌≢◌, Bool, List, [], ◌∷◌, ◌++◌, length, Option, Some, Result, Ok, Err, refl, sym, ap, ◌∙◌, subst, arith, append-nil, append_assoc}
use Rattle.std.specs.Option.{option_map}
use Rattle.value_types.specs.Datum.{Datum}
use Rattle.value_types.specs.declared.hash.Hash.{Hash}
use Rattle.value_types.specs.declared.value.ScVal.{ScVal}
use Rattle.value_types.specs.Views.{datum, datums}
use Rattle.value_types.specs.declared.error.ScError.{ScError}
use Rattle.wasm_spec.specs.declared.module.Module.{Module}
use Rattle.wasm_spec.specs.Stores.{Store}
use Rattle.wasm_run.specs.Suspended.{Suspended}
use Rattle.wasm_spec.specs.Instances.{Start, Missing, WrongArity, Segment, Ready, start_of}
use Rattle.host_spec.specs.declared.error.HostErr.{HostErr}
use Rattle.host_spec.specs.declared.error.HostErr.TheVariants as ends
use Rattle.auth_trees.proofs.Lemmas.{later_self, later_twice}
use Rattle.contract_storage.proofs.Lemmas.{again}
use Rattle.host_ledger.proofs.Lemmas.{later_same, quietly, serves_later, since}
use Rattle.call_spec.specs.World.{World, Env}
use Rattle.call_spec.specs.Acts.{Act, Failed, Out, Bad, then_do, after, begins}
use Rattle.call_spec.specs.Outcomes.{trace_of}
use Rattle.call_spec.specs.Calling.{Call}
use Rattle.call_spec.specs.Frames.{Entered, framed}
use Rattle.call_spec.specs.Found.{with_start}
use Rattle.call_spec.specs.HostFunctions.{host_of, opener_of}
use Rattle.call_parts.specs.Started.{IsStarted, refusal_of}
use Rattle.host_ledger.specs.Worlds.{address_of, called_name, called_args, copied}
use Rattle.host_ledger.specs.declared.state.InstanceCopy.{InstanceCopy}
use Rattle.host_ledger.specs.declared.state.Frame.{Frame}
use Rattle.call_host.specs.Worlds.{world_around, leaving_by, numbered, IsEnvOf, DoesAround, Stays}
use Rattle.call_host.specs.Running.{entered, IsFrameFor}
use Rattle.call_host.specs.Targets.{call_at, target, target_of, enters_at, call_of}
use Rattle.call_host.specs.declared.host.Host.{Host}
use Rattle.call_host.specs.declared.targets.Target.{Target as Target'}
use Rattle.call_host.specs.declared.targets.ContractCall.{ContractCall}
use Rattle.call_host.proofs.Lemmas.{as_fails, calls_first, fails_as, go_on, keep_rest, same_act, stop, telling, traced}
use Rattle.contract_call.proofs.Looping.{same_authority}

-- ---- acts of the host, one after another

pub env_later : {G U V : Type 0} (old new : Host G U V) → Stays old new → (env : Env) → IsEnvOf env old → IsEnvOf env new
env_later old new stays env is = record {
  ledger = record { header = is.ledger.header ∙ sym stays.header; serves = serves_later env old.ledger.storage new.ledger.storage stays.storage is.ledger.serves };
  authority = is.authority ∙ same_authority old new stays.marks stays.verdicts;
}

pub around_on : {A B C D G U V : Type 0} (a : A) (r : Result C HostErr) (view : A → B) (other : C → D) (act : Env → Act B) (next : Env → B → Act D) (old mid new : Host G U V)
    → ((env : Env) → IsEnvOf env old → IsEnvOf env mid) → (let given : Result A HostErr = Ok a in DoesAround given view act old mid) → DoesAround r other (λ env. next env (view a)) mid new
    → DoesAround r other (λ env. after (act env) (next env)) old new
around_on a r view other act next old mid new later one two env is rest trace =
    go_on (λ w t. world_around w mid t) (λ w t. world_around w new t) keep_rest (telling old mid trace) (telling old new trace) (λ _ _ _. refl) a r view other rest (act env (world_around rest old trace)) (next env) (one env is rest trace)
    (λ w t told. since r other (next env (view a) (world_around w mid t)) old.ledger.storage mid.ledger.storage new.ledger.storage trace t (world_around w new) told (two env (later env is) w t))

pub around_stop : {A B C D G U V : Type 0} (e : HostErr) (view : A → B) (other : C → D) (act : Env → Act B) (next : Env → B → Act D) (old new : Host G U V)
    → (let none : Result A HostErr = Err e in DoesAround none view act old new) → (let none : Result C HostErr = Err e in DoesAround none other (λ env. after (act env) (next env)) old new)
around_stop e view other act next old new one env is rest trace =
    let out = act env (world_around rest old trace) in
    as_fails e other (then_do out (next env)) (leaving_by old new trace (world_around rest new))
    (stop (λ w t. world_around w new t) keep_rest (telling old new trace) new.ledger.budget new.marks.noted (λ _ _. (refl, refl)) e rest out (next env) (fails_as e view out (leaving_by old new trace (world_around rest new)) (one env is rest trace)))

-- an act that gets a path of its own
pub around_begins : {C D G U V : Type 0} (r : Result C HostErr) (view : C → D) (act : Env → List ℕ → Act D) (path : List ℕ) (old mid new : Host G U V) → path ≡ old.ledger.frame.path.items ++ old.ledger.frame.begun ∷ [] → mid ≡ numbered old
    → DoesAround r view (λ env. act env path) mid new → DoesAround r view (λ env. begins (act env)) old new
around_begins {G = G} {U = U} {V = V} r view act path old mid new at is h env env_is rest trace =
    let next : Host G U V → Type 0 = λ m. DoesAround r view (λ env. act env (old.ledger.frame.path.items ++ old.ledger.frame.begun ∷ [])) m new in
    subst next is (subst (λ p. DoesAround r view (λ env. act env p) mid new) at h) env (record { ledger = record { header = env_is.ledger.header; serves = env_is.ledger.serves }; authority = env_is.authority }) rest trace

pub numbered_stays : {G U V : Type 0} (old mid : Host G U V) → mid ≡ numbered old → Stays old mid
numbered_stays {G} {U} {V} old mid is = subst (λ (h : Host G U V). Stays old h) (sym is) (record {
  header = refl;
  storage = later_same old.ledger.storage old.ledger.storage refl;
  events = ([], sym (append-nil old.ledger.events));
  objects = refl;
  frame = refl;
  contracts = refl;
  marks = later_self old.marks;
  verdicts = refl;
})

pub stays_then : {G U V : Type 0} (old mid new : Host G U V) → Stays old mid → Stays mid new → Stays old new
stays_then old mid new one two = record {
  header = two.header ∙ one.header;
  storage = again old.ledger.storage mid.ledger.storage new.ledger.storage one.storage two.storage;
  events = (one.events.0 ++ two.events.0, two.events.1 ∙ ap (λ x. x ++ two.events.0) one.events.1 ∙ append_assoc old.ledger.events one.events.0 two.events.0);
  objects = two.objects ∙ one.objects;
  frame = two.frame ∙ one.frame;
  contracts = two.contracts ∙ one.contracts;
  marks = later_twice old.marks mid.marks new.marks one.marks two.marks;
  verdicts = two.verdicts ∙ one.verdicts;
}

pub around_same : {C D G U V : Type 0} (r : Result C HostErr) (view : C → D) (one other : Env → Act D) (old new : Host G U V) → ((env : Env) (w : World) → one env w ≡ other env w) → DoesAround r view other old new
    → DoesAround r view one old new
around_same r view one other old new same h env is rest trace =
    same_act (λ w t. world_around w new t) keep_rest (telling old new trace) r view rest (one env (world_around rest old trace)) (other env (world_around rest old trace)) (same env (world_around rest old trace)) (h env is rest trace)

-- a failure that changes nothing
pub around_fails : {C D G U V : Type 0} (e : ScError) (view : C → D) (act : Env → Act D) (old : Host G U V) → ((env : Env) (w : World) → act env w ≡ Bad (Failed e) w)
    → (let none : Result C HostErr = Err (ends.Failed e) in DoesAround none view act old old)
around_fails {C} {D} e view act old h env is rest trace =
    let none : Result C HostErr = Err (ends.Failed e) in
    let w = world_around rest old trace in
    quietly none view (act env w) old.ledger.storage w (world_around rest old) (traced none view (act env w) (λ t. t ≡ w.trace) w (ap (λ (o : Out D). trace_of o) (h env w), h env w))

-- ---- the target

-- what opens a frame, if one more may be open
pub opens : (env : Env) (room : ℕ) → room ≢ 0 → opener_of env room ≡ Some (framed env (host_of env (opener_of env (room - 1))))
opens env zero h = absurd (h refl)
opens env (suc room) h = let less : room ≡ suc room - 1 = omega arith in ap (λ n. Some (framed env (host_of env (opener_of env n)))) less

call_splits : (room : ℕ) → room ≢ 0 → (named : Bool) (call : Call) (path : List ℕ) (env : Env) (w : World)
    → call_at named env (opener_of env room) call path w ≡ after (target_of named call.address env) (enters_at (framed env (host_of env (opener_of env (room - 1)))) call path) w
call_splits room h named call path env w =
    ap (λ o. call_at named env o call path w) (opens env room h) ∙ calls_first named env (framed env (host_of env (opener_of env (room - 1)))) call path w

-- the start of a new frame, as the definitions have it
pub frame_starts : (enter : Entered → Act Datum) (frame : Frame) (id : Hash) (by : Option Hash) (name : List ℕ) (values : List ScVal) (copy : InstanceCopy) (path : List ℕ) (m : Module) (w : World)
    → IsFrameFor frame id by name values copy path
    → with_start (start_of m (called_name frame.function) (length (called_args frame.function))) (λ index store. enter (entered frame m index store)) w
    ≡ with_start (start_of m name (length (datums values))) (λ index store. enter (record {
      contract = id;
      caller = option_map address_of by;
      function = name;
      args = datums values;
      instance = copied copy;
      path = path;
      module_ = m;
      index = index;
      store = store;
    })) w
frame_starts enter frame id by name values copy path m w is = λ i.
    with_start (start_of m (called_name (is.function i)) (length (called_args (is.function i)))) (λ index store. enter (record {
      contract = is.contract i;
      caller = option_map address_of (is.caller i);
      function = called_name (is.function i);
      args = called_args (is.function i);
      instance = copied (is.copy i);
      path = is.path i;
      module_ = m;
      index = index;
      store = store;
    })) w

-- the run of a new frame's function, where so many more frames may be open
abbrev pub enters_frame : Env → ℕ → Frame → Module → Act Datum
enters_frame env room frame m =
    with_start (start_of m (called_name frame.function) (length (called_args frame.function))) (λ index store. framed env (host_of env (opener_of env room)) (entered frame m index store))

pub target_enters : {G U V : Type 0} (room : ℕ) (c : ContractCall) (t : Target') (frame : Frame) (r : Result ScVal HostErr) (old new : Host G U V) (path : List ℕ)
    → IsFrameFor frame t.contract c.caller c.function.now c.args.items t.copy path → DoesAround r datum (λ env. enters_frame env room frame t.module) old new
    → DoesAround r datum (λ env. enters_at (framed env (host_of env (opener_of env room))) (call_of c) path (target t)) old new
target_enters room c t frame r old new path is enters =
    let enter = λ (env : Env). framed env (host_of env (opener_of env room)) in
    around_same r datum (λ env. enters_at (enter env) (call_of c) path (target t)) (λ env. enters_frame env room frame t.module) old new
    (λ env w. sym (frame_starts (enter env) frame t.contract c.caller c.function.now c.args.items t.copy path t.module w is)) enters

pub call_enters : {G U V : Type 0} (room : ℕ) → room ≢ 0 → (named : Bool) (c : ContractCall) (path : List ℕ) (t : Target') (r : Result ScVal HostErr) (old mid new : Host G U V) → Stays old mid
    → (let found : Result Target' HostErr = Ok t in DoesAround found target (target_of named c.contract) old mid)
    → DoesAround r datum (λ env. enters_at (framed env (host_of env (opener_of env (room - 1)))) (call_of c) path (target t)) mid new
    → DoesAround r datum (λ env. call_at named env (opener_of env room) (call_of c) path) old new
call_enters room h named c path t r old mid new stays found enters =
    let enter = λ (env : Env). framed env (host_of env (opener_of env (room - 1))) in
    around_same r datum (λ env. call_at named env (opener_of env room) (call_of c) path) (λ env. after (target_of named c.contract env) (enters_at (enter env) (call_of c) path)) old new
    (λ env w. call_splits room h named (call_of c) path env w)
    (around_on t r target datum (target_of named c.contract) (λ env. enters_at (enter env) (call_of c) path) old mid new (env_later old mid stays) found enters)

pub call_refused : {G U V : Type 0} (room : ℕ) → room ≢ 0 → (named : Bool) (c : ContractCall) (path : List ℕ) (e : HostErr) (old new : Host G U V)
    → (let none : Result Target' HostErr = Err e in DoesAround none target (target_of named c.contract) old new)
    → (let none : Result ScVal HostErr = Err e in DoesAround none datum (λ env. call_at named env (opener_of env room) (call_of c) path) old new)
call_refused room h named c path e old new found =
    let none : Result ScVal HostErr = Err e in
    let enter = λ (env : Env). framed env (host_of env (opener_of env (room - 1))) in
    around_same none datum (λ env. call_at named env (opener_of env room) (call_of c) path) (λ env. after (target_of named c.contract env) (enters_at (enter env) (call_of c) path)) old new
    (λ env w. call_splits room h named (call_of c) path env w) (around_stop e target datum (target_of named c.contract) (λ env. enters_at (enter env) (call_of c) path) old new found)

-- ---- the start

pub start_ready : {C D G U V : Type 0} (s : Start) (index : ℕ) (store : Store) (r : Result C HostErr) (view : C → D) (next : Env → ℕ → Store → Act D) (old new : Host G U V) → s ≡ Ready index store
    → DoesAround r view (λ env. next env index store) old new → DoesAround r view (λ env. with_start s (next env)) old new
start_ready s index store r view next old new e h = subst (λ x. DoesAround r view (λ env. with_start x (next env)) old new) (sym e) h

refused_as : {D : Type 0} (s : Start) (e : ScError) (next : ℕ → Store → Act D) (w : World) → refusal_of s ≡ Some e → with_start s next w ≡ Bad (Failed e) w
refused_as Missing e next w is = ap (λ x. Bad (Failed x) w) cc
refused_as WrongArity e next w is = ap (λ x. Bad (Failed x) w) cc
refused_as Segment e next w is = ap (λ x. Bad (Failed x) w) cc
refused_as (Ready index store) e next w is = cc

no_memory : {C D G U V : Type 0} (view : C → D) (act : Env → Act D) (old new : Host G U V) → (let none : Result C HostErr = Err ends.NoMemory in DoesAround none view act old new)
no_memory view act old new env is rest trace = tt

pub start_refused : {G U V : Type 0} (m : Module) (function : List ℕ) (n : ℕ) (e : HostErr) (next : Env → ℕ → Store → Act Datum) (old : Host G U V) → (let none : Result Suspended HostErr = Err e in IsStarted m function n none)
    → (let none : Result ScVal HostErr = Err e in DoesAround none datum (λ env. with_start (start_of m function n) (next env)) old old)
start_refused m function n (ends.Failed e) next old h = around_fails e datum (λ env. with_start (start_of m function n) (next env)) old (λ env w. refused_as (start_of m function n) e (next env) w h)
start_refused m function n ends.NoMemory next old h = no_memory datum (λ env. with_start (start_of m function n) (next env)) old old
start_refused m function n ends.Spent next old h = absurd h
start_refused m function n (ends.Undeclared key) next old h = absurd h
start_refused m function n (ends.Archived key) next old h = absurd h
