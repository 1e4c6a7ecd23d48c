-- Host functions that open a frame.
use Rattle.std.proofs.Common.{◌≡◌, ℕ, List, ◌++◌, append_assoc, Some, Result, Ok, Err, refl, sym, ap, ◌∙◌, subst}
use Rattle.value_types.specs.Datum.{Datum}
use Rattle.value_types.specs.Views.{datum}
use Rattle.value_types.specs.declared.value.ScVal.{ScVal}
use Rattle.value_types.specs.declared.address.ScAddress.{ScAddress}
use Rattle.value_types.specs.declared.address.ScAddress.TheVariants.{Contract}
use Rattle.object_store.specs.Shown.{AreIndices}
use Rattle.ledger_types.specs.declared.header.Header.{Header}
use Rattle.contract_storage.specs.Stored.{Stored, HasBounds}
use Rattle.host_interface.specs.declared.import.HostImport.{HostImport}
use Rattle.host_spec.specs.Answers.{Answer, value, given}
use Rattle.host_spec.specs.declared.error.HostErr.{HostErr}
use Rattle.host_frame.specs.Answered.{answer_of}
use Rattle.host_frame.specs.declared.answer.Answer.{Answer as Answer'}
use Rattle.std.specs.Prelude.{All}
use Rattle.auth_types.specs.AuthEntry.{auth_entry_format}
use Rattle.auth_spec.specs.Authorities.{Authorised}
use Rattle.auth_trees.proofs.Lemmas.{later_twice}
use Rattle.call_spec.specs.World.{Access, World, Env, next_seq}
use Rattle.call_spec.specs.Acts.{Act, Good, after, gives, lift}
use Rattle.call_spec.specs.Calling.{Call, calls}
use Rattle.call_spec.specs.HostFunctions.{host_function, opener_of}
use Rattle.call_spec.specs.Outcomes.{Says}
use Rattle.call_spec.specs.Rules.{returning}
use Rattle.host_ledger.specs.Traced.{leaving}
use Rattle.host_ledger.specs.Worlds.{frame_at, at_start, IsCallOf, IsHeld}
use Rattle.host_ledger.specs.declared.state.Frame.{Frame as Frame'}
use Rattle.call_host.specs.Worlds.{leaving_by, contracts_of, world_in, world_around, with_memory, DoesAround, DoesIn, Stays, MayRun}
use Rattle.call_host.specs.Running.{StaysIn, DoesOver}
use Rattle.contract_call.specs.Made.{IsValued}
use Rattle.call_host.specs.Taken.{TakesIn}
use Rattle.call_host.specs.declared.host.Host.{Host}
use Rattle.call_host.proofs.Lemmas.{as_fails, fails_as, go_on, keep_rest, same_act, shown_as, stop, telling}
use Rattle.contract_storage.proofs.Lemmas.{again}
use Rattle.contract_call.proofs.Looping.{env_in}

-- an act around the running frame, in it
pub in_around : {A B G U V : Type 0} (r : Result A HostErr) (view : A → B) (act : Env → Act B) (old new : Host G U V) → Stays old new → DoesAround r view act old new → DoesIn r view act old new
in_around r view act old new stays around env is rest trace =
    let outer : World = record rest { frame = (world_in rest old trace).frame } in
    let at : Frame' → List Datum → List Access → World = λ f o t. record rest {
      entries = new.ledger.storage.map;
      events = new.ledger.events;
      pairs = new.marks.pairs;
      noted = new.marks.noted;
      frame = record (frame_at rest.frame.memory o f) { path = new.ledger.frame.path.items; begun = new.ledger.frame.begun };
      contracts = contracts_of new;
      trace = t;
      meter = new.ledger.budget;
    } in
    shown_as (λ v t. world_in v new t) keep_rest (telling old new trace) new.ledger.budget new.marks.noted (λ _ _. (refl, refl)) r view rest (act env (world_in rest old trace)) (λ t. world_around outer new t)
    (λ t. ap (λ f. at f new.ledger.objects t) stays.frame ∙ ap (λ o. at old.ledger.frame o t) stays.objects) (around env is outer trace)

-- a value of an act as a host function's answer
pub valued_does : {A B G U V : Type 0} (made : Result A HostErr) (pick : A → B) (view : B → Datum) (r : Result Answer' HostErr) (act : Env → Act B) (old new : Host G U V) → IsValued made (λ a. view (pick a)) r
    → DoesIn made pick act old new → DoesIn r answer_of (λ env. returning (act env) view) old new
valued_does (Ok a) pick view r act old new valued does env is rest trace =
    let w = world_in rest old trace in
    let answer : Result Answer' HostErr = Ok valued.0 in
    subst (λ (x : Result Answer' HostErr). Says x answer_of (returning (act env) view w) (leaving_by old new trace (world_in rest new))) (sym valued.1)
    (go_on (λ v t. world_in v new t) (λ v t. world_in v new t) keep_rest (telling old new trace) (telling old new trace) (λ _ _ _. refl) a answer pick answer_of rest (act env w) (λ b. gives (value (view b)))
    (does env is rest trace) (λ v t told. (told, ap (λ x. Good x (world_in v new t)) (sym valued.2))))
valued_does (Err e) pick view r act old new valued does env is rest trace =
    let w = world_in rest old trace in
    let out = act env w in
    let next : _ → Act Answer = λ b. gives (value (view b)) in
    subst (λ (x : Result Answer' HostErr). Says x answer_of (returning (act env) view w) (leaving_by old new trace (world_in rest new))) (sym valued)
    (as_fails e answer_of (returning (act env) view w) (leaving_by old new trace (world_in rest new))
    (stop (λ v t. world_in v new t) keep_rest (telling old new trace) new.ledger.budget new.marks.noted (λ _ _. (refl, refl)) e rest out next (fails_as e pick out (leaving_by old new trace (world_in rest new)) (does env is rest trace))))

-- the arguments first
pub taken_does : {A G U V : Type 0} (a : A) (r : Result Answer' HostErr) (act : Env → Act Answer) (next : Env → A → Act Answer) (old mid new : Host G U V) → StaysIn old mid
    → (let taken : Result A HostErr = Ok a in TakesIn taken act next old mid) → DoesIn r answer_of (λ env. next env a) mid new → DoesIn r answer_of act old new
taken_does a r act next old mid new stays takes does env is rest trace =
    same_act (λ v t. world_in v new t) keep_rest (telling old new trace) r answer_of rest (act env (world_in rest old trace)) (next env a (world_in rest mid trace)) (takes.1 env is rest trace)
    (subst (λ (s : Stored). Says r answer_of (next env a (world_in rest mid trace)) (leaving s new.ledger.storage trace (world_in rest new))) takes.0 (does env (env_in old mid stays env is) rest trace))

-- a call by the running frame, with the same function's name
pub called_by : {G U V : Type 0} (wrap : Act Datum → Act Datum) (room : ℕ) (address : ScAddress) (slice function : List ℕ) (args : List Datum) (made : Result ScVal HostErr) (r : Result Answer' HostErr) (mid new : Host G U V)
    → slice ≡ function → Stays mid new → IsValued made datum r
    → (let c : Call = record { caller = Some (Contract mid.ledger.frame.contract); address = address; function = slice; args = args } in DoesAround made datum (λ env. wrap (calls env (opener_of env room) c)) mid new)
    → (let c : Call = record { caller = Some (Contract mid.ledger.frame.contract); address = address; function = function; args = args } in
    DoesIn r answer_of (λ env. returning (wrap (calls env (opener_of env room) c)) (λ d. d)) mid new)
called_by wrap room address slice function args made r mid new same stays valued does =
    let c : List ℕ → Call = λ f. record { caller = Some (Contract mid.ledger.frame.contract); address = address; function = f; args = args } in
    valued_does made datum (λ d. d) r (λ env. wrap (calls env (opener_of env room) (c function))) mid new valued
    (in_around made datum (λ env. wrap (calls env (opener_of env room) (c function))) mid new stays (subst (λ f. DoesAround made datum (λ env. wrap (calls env (opener_of env room) (c f))) mid new) same does))

-- an act that leaves the memory as it is
pub over_same : {A B G U V : Type 0} (before after : List ℕ) (r : Result A HostErr) (view : A → B) (act : Env → Act B) (old new : Host G U V) → after ≡ before → DoesIn r view act old new
    → DoesOver before after r view act old new
over_same before after r view act old new e does env is rest trace same =
    subst (λ (m : List ℕ). Says r view (act env (world_in rest old trace)) (leaving_by old new trace (world_in (with_memory m rest) new))) (same ∙ sym e) (does env is rest trace)

-- ---- the answer

pub row_answers : {G U V : Type 0} (i j : HostImport) (room : ℕ) (words memory : List ℕ) (act : Env → Act Answer) (r : Result ℕ HostErr) (old new : Host G U V) → i ≡ j
    → ((env : Env) (w : World) → host_function env (opener_of env room) j words w ≡ after (act env) (λ answer. lift (given answer)) w) → DoesIn r (λ word. word) (λ env. after (act env) (λ answer. lift (given answer))) old new
    → DoesOver memory memory r (λ word. word) (λ env. host_function env (opener_of env room) i words) old new
row_answers {G} i j room words memory act r old new is same does =
    subst (λ x. DoesOver memory memory r (λ word. word) (λ env. host_function env (opener_of env room) x words) old new) (sym is)
    (over_same memory memory r (λ word. word) (λ env. host_function env (opener_of env room) j words) old new refl
    (λ env env_is rest trace. same_act (λ v t. world_in v new t) keep_rest (telling old new trace) r (λ word. word) rest (host_function env (opener_of env room) j words (world_in rest old trace)) (after (act env) (λ answer. lift (given answer)) (world_in rest old trace))
    (same env (world_in rest old trace)) (does env env_is rest trace)))

-- ---- the state

pub still : {G U V : Type 0} (old new : Host G U V) → MayRun old → Stays old new → MayRun new
still old new ready stays = record {
  ledger = record {
    bounds = subst (λ (h : Header). HasBounds (next_seq h) h.settings) (sym stays.header) ready.ledger.bounds;
    number = ap (λ (s : Stored). s.n) stays.storage ∙ ready.ledger.number ∙ ap next_seq (sym stays.header);
    lives = ap (λ (s : Stored). s.lives) stays.storage ∙ ready.ledger.lives ∙ ap (λ (h : Header). h.settings) (sym stays.header);
    indices = subst (λ (f : Frame'). AreIndices new.ledger.objects f.shown) (sym stays.frame) (subst (λ o. AreIndices o old.ledger.frame.shown) (sym stays.objects) ready.ledger.indices);
    copy = subst (λ (f : Frame'). IsHeld f.copy.storage) (sym stays.frame) ready.ledger.copy;
  };
  called = subst (λ (f : Frame'). IsCallOf f.contract f.function) (sym stays.frame) ready.called;
  entries = subst (λ (s : Authorised). All auth_entry_format.fits s.entries) (sym stays.marks.rest) ready.entries;
}

pub stays_on : {G U V : Type 0} (old mid new : Host G U V) → StaysIn old mid → Stays mid new → StaysIn old new
stays_on old mid new one two = record {
  left = record {
    header = two.header ∙ one.left.header;
    storage = again old.ledger.storage mid.ledger.storage new.ledger.storage one.left.storage two.storage;
    events = (one.left.events.0 ++ two.events.0, two.events.1 ∙ ap (λ x. x ++ two.events.0) one.left.events.1 ∙ append_assoc old.ledger.events one.left.events.0 two.events.0);
    frame = ap at_start two.frame ∙ one.left.frame;
  };
  contracts = two.contracts ∙ one.contracts;
  marks = later_twice old.marks mid.marks new.marks one.marks two.marks;
  verdicts = two.verdicts ∙ one.verdicts;
  ready = still mid new one.ready two;
}
