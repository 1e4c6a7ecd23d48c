-- Creates: the contract that is made, and the call of its constructor.
use Rattle.std.proofs.Common.{◌≡◌, ℕ, ◌-◌, ◌≢◌, List, [], ◌∷◌, ◌++◌, length, is_some, true, Option, Some, None, Result, Ok, Err, refl, sym, ap, ◌∙◌, subst}
use Rattle.std.specs.Option.{option_map, unwrap_or}
use Rattle.value_types.specs.Datum.{Datum}
use Rattle.value_types.specs.Views.{datum, datums}
use Rattle.value_types.specs.declared.hash.Hash.{Hash}
use Rattle.value_types.specs.declared.value.ScVal.{ScVal}
use Rattle.value_types.specs.declared.address.ScAddress.{ScAddress}
use Rattle.wasm_spec.specs.declared.module.Module.{Module}
use Rattle.wasm_spec.specs.Stores.{Store}
use Rattle.wasm_spec.specs.Instances.{Start, Missing, WrongArity, Segment, Ready, start_of, function_named}
use Rattle.host_spec.specs.Errors.{OTHER_TYPE}
use Rattle.host_spec.specs.declared.error.HostErr.{HostErr}
use Rattle.call_parts.specs.Steps.{Returns}
use Rattle.call_spec.specs.World.{World, Env}
use Rattle.call_spec.specs.Acts.{Act, then_do, after, gives, only_where}
use Rattle.call_spec.specs.Creating.{Creation, CONSTRUCTOR, constructs, constructs_if, new_instance, creates_at}
use Rattle.call_spec.specs.Found.{with_start}
use Rattle.call_spec.specs.Frames.{Entered, Opener, framed, is_void}
use Rattle.call_spec.specs.HostFunctions.{host_of, opener_of}
use Rattle.host_ledger.specs.Worlds.{address_of}
use Rattle.host_ledger.specs.declared.state.Frame.{Frame}
use Rattle.call_host.specs.Worlds.{world_around, IsEnvOf, DoesAround, Stays}
use Rattle.call_host.specs.Running.{IsFrameFor}
use Rattle.contract_call.specs.Made.{identifying, granting, authorising, building, constructing, builds_with, if_void, IsConstructed}
use Rattle.call_host.specs.declared.host.Host.{Host}
use Rattle.contract_call.proofs.Calling.{env_later, around_on, around_stop, around_same, enters_frame, frame_starts, opens}
use Rattle.contract_call.proofs.Constructing.{at_first, authorising_first, void_says}
use Rattle.host_ledger.proofs.Lemmas.{quietly}
use Rattle.call_host.proofs.Lemmas.{joined, traced}

-- a call that changes nothing
pub returns_around : {A B G U V : Type 0} (r : Result A HostErr) (view : A → B) (act : Env → Act B) (old : Host G U V) → ((env : Env) → Returns r view (act env)) → DoesAround r view act old old
returns_around r view act old h env is rest trace =
    let w = world_around rest old trace in
    quietly r view (act env w) old.ledger.storage w (world_around rest old) (traced r view (act env w) (λ trace. trace ≡ w.trace) w (h env w))

-- ---- the create

module _ (room : ℕ) (creator : Option ScAddress) (c : Creation) (path : List ℕ) where
  abbrev creates_all : Env → Act Hash
  creates_all env = creates_at env (opener_of env room) creator c path

  abbrev authorises : Env → Act Hash
  authorises env = authorising env (opener_of env room) creator c path

  abbrev builds_all : Env → Hash → Act Hash
  builds_all env id = builds_with env (opener_of env room) creator c path id

  abbrev identifies : Env → Act Hash
  identifies env = identifying env c

  abbrev grants : Env → Hash → Act Hash
  grants env id = granting env (opener_of env room) creator c path id

  pub creates_does : {G U V : Type 0} (id : Hash) (r : Result Hash HostErr) (old mid new : Host G U V) → Stays old mid → (let given : Result Hash HostErr = Ok id in DoesAround given (λ x. x) authorises old mid)
      → DoesAround r (λ x. x) (λ env. builds_all env id) mid new → DoesAround r (λ x. x) creates_all old new
  creates_does id r old mid new stays one two =
      around_same r (λ x. x) creates_all (λ env. after (authorises env) (builds_all env)) old new (λ env w. at_first env (opener_of env room) creator c path w)
      (around_on id r (λ x. x) (λ x. x) authorises builds_all old mid new (env_later old mid stays) one two)

  pub creates_refused : {G U V : Type 0} (e : HostErr) (old new : Host G U V) → (let none : Result Hash HostErr = Err e in DoesAround none (λ x. x) authorises old new)
      → (let none : Result Hash HostErr = Err e in DoesAround none (λ x. x) creates_all old new)
  creates_refused e old new one =
      let none : Result Hash HostErr = Err e in
      around_same none (λ x. x) creates_all (λ env. after (authorises env) (builds_all env)) old new (λ env w. at_first env (opener_of env room) creator c path w)
      (around_stop e (λ (x : Hash). x) (λ (x : Hash). x) authorises builds_all old new one)

  pub authorises_does : {G U V : Type 0} (id : Hash) (r : Result Hash HostErr) (old mid new : Host G U V) → Stays old mid → (let given : Result Hash HostErr = Ok id in DoesAround given (λ x. x) identifies old mid)
      → DoesAround r (λ x. x) (λ env. grants env id) mid new → DoesAround r (λ x. x) authorises old new
  authorises_does id r old mid new stays one two =
      around_same r (λ x. x) authorises (λ env. after (identifies env) (grants env)) old new (λ env w. authorising_first env (opener_of env room) creator c path w)
      (around_on id r (λ x. x) (λ x. x) identifies grants old mid new (env_later old mid stays) one two)

  pub authorises_not : {G U V : Type 0} (e : HostErr) (old new : Host G U V) → (let none : Result Hash HostErr = Err e in DoesAround none (λ x. x) identifies old new)
      → (let none : Result Hash HostErr = Err e in DoesAround none (λ x. x) authorises old new)
  authorises_not e old new one =
      let none : Result Hash HostErr = Err e in
      around_same none (λ x. x) authorises (λ env. after (identifies env) (grants env)) old new (λ env w. authorising_first env (opener_of env room) creator c path w)
      (around_stop e (λ (x : Hash). x) (λ (x : Hash). x) identifies grants old new one)

-- the module of a new contract, then its constructor
pub builds_does : {G U V : Type 0} (room : ℕ) (creator : Option ScAddress) (c : Creation) (path : List ℕ) (id : Hash) (m : Module) (r : Result Hash HostErr) (old mid new : Host G U V) → Stays old mid
    → (let given : Result Module HostErr = Ok m in DoesAround given (λ x. x) (λ env. building env id c.code) old mid)
    → DoesAround r (λ x. x) (λ env. constructing (opener_of env room) creator id c path m) mid new → DoesAround r (λ x. x) (λ env. builds_with env (opener_of env room) creator c path id) old new
builds_does room creator c path id m r old mid new stays one two =
    around_on m r (λ x. x) (λ x. x) (λ env. building env id c.code) (λ env m. constructing (opener_of env room) creator id c path m) old mid new (env_later old mid stays) one two

pub builds_refused : {G U V : Type 0} (room : ℕ) (creator : Option ScAddress) (c : Creation) (path : List ℕ) (id : Hash) (e : HostErr) (old new : Host G U V)
    → (let none : Result Module HostErr = Err e in DoesAround none (λ x. x) (λ env. building env id c.code) old new)
    → (let none : Result Hash HostErr = Err e in DoesAround none (λ x. x) (λ env. builds_with env (opener_of env room) creator c path id) old new)
builds_refused room creator c path id e old new one =
    around_stop e (λ (x : Module). x) (λ (x : Hash). x) (λ env. building env id c.code) (λ env m. constructing (opener_of env room) creator id c path m) old new one

-- ---- the constructor

start_then : {A B C : Type 0} (s : Start) (f : ℕ → Store → Act A) (h : A → Act B) (k : B → Act C) (w : World)
    → then_do (with_start s (λ index store. after (f index store) h) w) k ≡ then_do (with_start s f w) (λ a. after (h a) k)
start_then Missing f h k w = refl
start_then WrongArity f h k w = refl
start_then Segment f h k w = refl
start_then (Ready index store) f h k w = joined (f index store w) h k

-- what the constructor's value decides
abbrev judging : Hash → Datum → Act Hash
judging id d = after (only_where (is_void d) OTHER_TYPE (gives (tt {0}))) (λ _. gives id)

with_function : (o : Option ℕ) (opener : Opener) (creator : Option ScAddress) (id code : Hash) (args : List Datum) (path : List ℕ) (m : Module) (enter : Entered → Act Datum) (w : World) → is_some o ≡ true
    → opener ≡ Some enter → constructs_if o opener creator id code args path m w ≡ constructs enter creator id code args path m w
with_function (Some index) opener creator id code args path m enter w some is = ap (λ x. constructs_if (Some index) x creator id code args path m w) is
with_function None opener creator id code args path m enter w some is = cc

abbrev built_frame : (Entered → Act Datum) → Option ScAddress → Hash → Hash → List Datum → List ℕ → Module → ℕ → Store → Act Datum
built_frame enter creator id code args path m index store = enter (record {
  contract = id;
  caller = creator;
  function = CONSTRUCTOR;
  args = args;
  instance = new_instance code;
  path = path ++ 1 ∷ [];
  module_ = m;
  index = index;
  store = store;
})

constructing_is : (env : Env) (room : ℕ) → room ≢ 0 → (creator : Option ScAddress) (id : Hash) (c : Creation) (args : List Datum) (path : List ℕ) (m : Module) (w : World) → args ≡ unwrap_or c.args []
    → is_some (function_named CONSTRUCTOR m.exports) ≡ true
    → constructing (opener_of env room) creator id c path m w
    ≡ after (with_start (start_of m CONSTRUCTOR (length args)) (built_frame (framed env (host_of env (opener_of env (room - 1)))) creator id c.code args path m)) (judging id) w
constructing_is env room h creator id c args path m w given some =
    let enter = framed env (host_of env (opener_of env (room - 1))) in
    ap (λ x. then_do (constructs_if (function_named CONSTRUCTOR m.exports) (opener_of env room) creator id c.code x path m w) (λ _. gives id)) (sym given)
    ∙ ap (λ o. then_do o (λ _. gives id)) (with_function (function_named CONSTRUCTOR m.exports) (opener_of env room) creator id c.code args path m enter w some (opens env room h))
    ∙ start_then (start_of m CONSTRUCTOR (length args)) (built_frame enter creator id c.code args path m) (λ d. only_where (is_void d) OTHER_TYPE (gives (tt {0}))) (λ _. gives id) w

decides : {G U V : Type 0} (returned : Result ScVal HostErr) (id : Hash) (r : Result Hash HostErr) (act : Env → Act Datum) (old new : Host G U V) → ((env : Env) → IsEnvOf env old → IsEnvOf env new) → IsConstructed returned id r
    → DoesAround returned datum act old new → DoesAround r (λ x. x) (λ env. after (act env) (judging id)) old new
decides (Ok v) id r act old new later is does =
    subst (λ x. DoesAround x (λ y. y) (λ env. after (act env) (judging id)) old new) (sym is)
    (around_on v (if_void (is_void (datum v)) id) datum (λ y. y) act (λ env. judging id) old new new later does (returns_around (if_void (is_void (datum v)) id) (λ y. y) (λ env. judging id (datum v)) new (λ env. void_says (is_void (datum v)) id)))
decides (Err e) id r act old new later is does =
    subst (λ x. DoesAround x (λ y. y) (λ env. after (act env) (judging id)) old new) (sym is) (around_stop e datum (λ y. y) act (λ env. judging id) old new does)

pub constructs_does : {G U V : Type 0} (room : ℕ) → room ≢ 0 → (creator : Option Hash) (id : Hash) (c : Creation) (frame : Frame) (values : List ScVal) (path : List ℕ) (m : Module)
    (returned : Result ScVal HostErr) (r : Result Hash HostErr) (old new : Host G U V) → datums values ≡ unwrap_or c.args [] → is_some (function_named CONSTRUCTOR m.exports) ≡ true
    → IsFrameFor frame id creator CONSTRUCTOR values (record { code = c.code; storage = None }) (path ++ 1 ∷ []) → Stays old new → IsConstructed returned id r
    → DoesAround returned datum (λ env. enters_frame env (room - 1) frame m) old new
    → DoesAround r (λ x. x) (λ env. constructing (opener_of env room) (option_map address_of creator) id c path m) old new
constructs_does room h creator id c frame values path m returned r old new given some is stays constructed does =
    let args = datums values in
    let enter = λ (env : Env). framed env (host_of env (opener_of env (room - 1))) in
    let built = λ (env : Env). built_frame (enter env) (option_map address_of creator) id c.code args path m in
    around_same r (λ x. x) (λ env. constructing (opener_of env room) (option_map address_of creator) id c path m) (λ env. after (with_start (start_of m CONSTRUCTOR (length args)) (built env)) (judging id)) old new
    (λ env w. constructing_is env room h (option_map address_of creator) id c args path m w given some)
    (decides returned id r (λ env. with_start (start_of m CONSTRUCTOR (length args)) (built env)) old new (env_later old new stays) constructed
    (around_same returned datum (λ env. with_start (start_of m CONSTRUCTOR (length args)) (built env)) (λ env. enters_frame env (room - 1) frame m) old new
    (λ env w. sym (frame_starts (enter env) frame id creator CONSTRUCTOR values (record { code = c.code; storage = None }) (path ++ 1 ∷ []) m w is)) does))
