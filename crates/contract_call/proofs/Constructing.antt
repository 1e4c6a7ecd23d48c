-- A create, split into what makes the contract and what calls its constructor.
use Rattle.std.specs.Option.{unwrap_or}
use Rattle.std.proofs.Common.{◌≡◌, ℕ, List, [], length, Bool, true, false, Option, Some, None, Result, Ok, Err, refl, sym, ap, ◌∙◌, subst}
use Rattle.budget_meter.specs.Meter.{Meter}
use Rattle.budget_meter.specs.declared.kind.Kind.TheVariants.{ComputeSha256Hash, VmInstantiation}
use Rattle.value_types.specs.declared.hash.Hash.{Hash}
use Rattle.value_types.specs.declared.address.ScAddress.{ScAddress}
use Rattle.invoke_types.specs.ContractId.{contract_id_payload}
use Rattle.wasm_spec.specs.declared.module.Module.{Module}
use Rattle.wasm_spec.specs.Instances.{function_named}
use Rattle.module_spec.specs.Loading.{module_of}
use Rattle.host_spec.specs.Acts.{charged}
use Rattle.host_spec.specs.Errors.{OTHER_TYPE}
use Rattle.host_spec.specs.declared.error.HostErr.{HostErr}
use Rattle.contract_storage.specs.Stored.{Stored, IsLater, IsRead}
use Rattle.call_spec.specs.World.{Write, World, Env}
use Rattle.call_spec.specs.Acts.{Act, then_do, after, gives, only_where, lift, paying}
use Rattle.call_spec.specs.Accesses.{access}
use Rattle.call_spec.specs.Keys.{instance_key}
use Rattle.call_spec.specs.Demands.{demanded}
use Rattle.call_spec.specs.Outcomes.{Says}
use Rattle.host_ledger.specs.Traced.{leaving}
use Rattle.call_spec.specs.Frames.{Opener}
use Rattle.call_spec.specs.Found.{code_at, with_module}
use Rattle.call_spec.specs.Creating.{Creation, preimage_of, id_of, function_of, makes_instance, CONSTRUCTOR, constructs_if, builds, makes, creates_at}
use Rattle.host_ledger.specs.Accessed.{Accesses}
use Rattle.host_ledger.specs.declared.state.HostLedger.{HostLedger}
use Rattle.host_ledger.proofs.Lemmas.{later_read, quietly}
use Rattle.call_parts.specs.Steps.{Steps, Charges, Returns}
use Rattle.call_host.specs.Worlds.{world_around, IsEnvOf, DoesAround}
use Rattle.contract_call.specs.Made.{identifying, granting, authorising, sized, code_of, instantiating, building, constructing, builds_with, if_void}
use Rattle.contract_call.specs.declared.creating.SizedCode.{SizedCode}
use Rattle.call_host.specs.declared.host.Host.{Host}
use Rattle.call_host.proofs.Lemmas.{around, joined, same_after, steps_on, steps_stop}
use Rattle.contract_call.proofs.Answering.{traced}

module_first : {A : Type 0} (m : Option Module) (next : Module → Act A) (w : World) → with_module m next w ≡ then_do (with_module m (λ x. gives x) w) next
module_first None next w = refl
module_first (Some m) next w = refl

-- the charge for a code, then its module
abbrev module_paid : List ℕ → Act Module
module_paid code = paying VmInstantiation (length code) (with_module (module_of code) (λ m. gives m))

paid_first : {A : Type 0} (code : List ℕ) (next : Module → Act A) (w : World) → paying VmInstantiation (length code) (with_module (module_of code) next) w ≡ then_do (module_paid code w) next
paid_first code next w =
    let paid = lift (charged VmInstantiation (length code)) w in
    let m = module_of code in
    same_after paid (λ _. with_module m next) (λ _ u. then_do (with_module m (λ x. gives x) u) next) (λ _ u. module_first m next u) ∙ sym (joined paid (λ _. with_module m (λ x. gives x)) next)

module _ (env : Env) (opener : Opener) (creator : Option ScAddress) (c : Creation) (path : List ℕ) where
  abbrev id : Hash
  id = id_of env c

  abbrev then_constructs : Module → Act Hash
  then_constructs m = constructing opener creator id c path m

  abbrev made_there : Act (Unit {0})
  made_there = access env Write (instance_key id) (makes_instance env id c.code)

  builds_first : (code : List ℕ) (w : World) → then_do (builds opener creator c id path code w) (λ _. gives id) ≡ then_do (module_paid code w) then_constructs
  builds_first code w =
      let constructor : Module → Act (Unit {0}) = λ m. constructs_if (function_named CONSTRUCTOR m.exports) opener creator id c.code (unwrap_or c.args []) path m in
      let o = module_paid code w in
      ap (λ x. then_do x (λ _. gives id)) (paid_first code constructor w) ∙ joined o constructor (λ _. gives id)

  makes_first : (code : List ℕ) (w : World) → makes env opener creator c path code w ≡ then_do (then_do (made_there w) (λ _. module_paid code)) then_constructs
  makes_first code w =
      same_after (made_there w) (λ _. after (builds opener creator c id path code) (λ _. gives id)) (λ _ u. then_do (module_paid code u) then_constructs) (λ _ u. builds_first code u)
      ∙ sym (joined (made_there w) (λ _. module_paid code) then_constructs)

  abbrev finds : Act Module
  finds = after (code_at env c.code) (λ code. after made_there (λ _. module_paid code))

  finds_is : (w : World) → finds w ≡ building env id c.code w
  finds_is w = sym (joined (code_at env c.code w) (λ code. gives (length code, module_of code)) (instantiating env id c.code))

  -- what comes after the demand
  finds_first : (w : World) → then_do (code_at env c.code w) (makes env opener creator c path) ≡ builds_with env opener creator c path id w
  finds_first w =
      let o = code_at env c.code w in
      same_after o (makes env opener creator c path) (λ code u. then_do (after made_there (λ _. module_paid code) u) then_constructs) (λ code u. makes_first code u)
      ∙ sym (joined o (λ code. after made_there (λ _. module_paid code)) then_constructs) ∙ ap (λ x. then_do x then_constructs) (finds_is w)

  abbrev asks : Act (Unit {0})
  asks = demanded env opener path creator c.deployer (function_of c)

  asks_first : (w : World) → then_do (asks w) (λ _. after (code_at env c.code) (makes env opener creator c path)) ≡ then_do (after asks (λ _. gives id) w) (builds_with env opener creator c path)
  asks_first w =
      same_after (asks w) (λ _. after (code_at env c.code) (makes env opener creator c path)) (λ _. builds_with env opener creator c path id) (λ _ u. finds_first u)
      ∙ sym (joined (asks w) (λ _. gives id) (builds_with env opener creator c path))

  pub at_first : (w : World) → creates_at env opener creator c path w ≡ after (authorising env opener creator c path) (builds_with env opener creator c path) w
  at_first w =
      let paid = lift (charged ComputeSha256Hash (length (contract_id_payload env.header.network_id (preimage_of c)))) w in
      same_after paid (λ _. after asks (λ _. after (code_at env c.code) (makes env opener creator c path))) (λ _ u. then_do (after asks (λ _. gives id) u) (builds_with env opener creator c path)) (λ _ u. asks_first u)
      ∙ sym (joined paid (λ _. after asks (λ _. gives id)) (builds_with env opener creator c path))

  -- the demand, after the id's charge
  pub authorising_first : (w : World) → authorising env opener creator c path w ≡ after (identifying env c) (granting env opener creator c path) w
  authorising_first w =
      let paid = lift (charged ComputeSha256Hash (length (contract_id_payload env.header.network_id (preimage_of c)))) w in
      sym (joined paid (λ _. gives id) (granting env opener creator c path))

-- ---- the instance and the module

-- a step that only charges leaves the entries
charges_step : {A B : Type 0} (r : Result A HostErr) (view : A → B) (act : Act B) (s : Stored) (before after : Meter) → Charges r view act before after → Steps r view (λ _. act) s s before after
charges_step r view act s before after h env serves w i j =
    quietly r view (act w) s w (λ t. record w { entries = s.map; trace = t; meter = after })
    (traced r view (act w) (λ t. record w { entries = s.map; trace = t; meter = after }) (record w { meter = after }) (ap (λ m. record w { entries = m; meter = after }) (sym i)) refl refl (h w j))

access_step : {A B : Type 0} (r : Result A HostErr) (view : A → B) (act : Env → Act B) (old new : Stored) (m : Meter) → Accesses r view act old new → Steps r view act old new m m
access_step r view act old new m h env serves w i j = subst (λ (z : Meter). Says r view (act env w) (leaving old new w.trace (λ t. record w { entries = new.map; trace = t; meter = z }))) j (h env serves w i)

abbrev made_at : Env → Hash → Hash → Act (Unit {0})
made_at env id hash = access env Write (instance_key id) (makes_instance env id hash)

abbrev taken : ℕ → Option Module → Act Module
taken length m = paying VmInstantiation length (with_module m (λ x. gives x))

pub instantiated : (r : Result Module HostErr) (id hash : Hash) (length : ℕ) (m : Option Module) (old new : Stored) (before mid last : Meter) → IsLater old new
    → (let given : Result (Unit {0}) HostErr = Ok tt in Steps given (λ u. u) (λ env. made_at env id hash) old new before mid) → Charges r (λ x. x) (taken length m) mid last
    → Steps r (λ x. x) (λ env. instantiating env id hash (length, m)) old new before last
instantiated r id hash length m old new before mid last later one two =
    steps_on tt r (λ u. u) (λ x. x) (λ env. made_at env id hash) (λ _ _. taken length m) old new new before mid last later one (charges_step r (λ x. x) (taken length m) new mid last two)

pub instance_failed : (e : HostErr) (id hash : Hash) (length : ℕ) (m : Option Module) (old new : Stored) (before last : Meter)
    → (let none : Result (Unit {0}) HostErr = Err e in Steps none (λ u. u) (λ env. made_at env id hash) old new before last)
    → (let none : Result Module HostErr = Err e in Steps none (λ x. x) (λ env. instantiating env id hash (length, m)) old new before last)
instance_failed e id hash length m old new before last one = steps_stop e (λ u. u) (λ x. x) (λ env. made_at env id hash) (λ _ _. taken length m) old new before last one

pub built : (code : SizedCode) (r : Result Module HostErr) (id hash : Hash) (old mid new : Stored) (before last : Meter) → IsRead old mid
    → (let given : Result SizedCode HostErr = Ok code in Accesses given sized (λ env. code_of env hash) old mid) → Steps r (λ x. x) (λ env. instantiating env id hash (sized code)) mid new before last
    → Steps r (λ x. x) (λ env. building env id hash) old new before last
built code r id hash old mid new before last read one two =
    let given : Result SizedCode HostErr = Ok code in
    steps_on code r sized (λ x. x) (λ env. code_of env hash) (λ env. instantiating env id hash) old mid new before before last (later_read old mid read) (access_step given sized (λ env. code_of env hash) old mid before one) two

-- ---- the host

pub does_around : {A B G U V : Type 0} (r : Result A HostErr) (view : A → B) (act : Env → Act B) (old : Host G U V) (new : HostLedger G V) → new ≡ record old.ledger { storage = new.storage; budget = new.budget }
    → ((env : Env) → IsEnvOf env old → (w : World) → w.entries ≡ old.ledger.storage.map → w.meter ≡ old.ledger.budget
    → Says r view (act env w) (leaving old.ledger.storage new.storage w.trace (λ trace. record w { entries = new.storage.map; trace = trace; meter = new.budget })))
    → DoesAround r view act old (around old new)
does_around r view act old new e h =
    let with_parts = record old.ledger { storage = new.storage; budget = new.budget } in
    subst (λ l. DoesAround r view act old (around old l)) (sym e) (λ env is rest trace. h env is (world_around rest old trace) refl refl)

-- a step that only charges
pub charges_around : {A B G U V : Type 0} (r : Result A HostErr) (view : A → B) (act : Env → Act B) (old : Host G U V) (new : HostLedger G V) → new ≡ record old.ledger { budget = new.budget }
    → ((env : Env) → env.header ≡ old.ledger.header.now → Charges r view (act env) old.ledger.budget new.budget) → DoesAround r view act old (around old new)
charges_around r view act old new e h =
    let paid = record old.ledger { budget = new.budget } in
    subst (λ l. DoesAround r view act old (around old l)) (sym e)
    (λ env is rest trace.
    let w = world_around rest old trace in
    quietly r view (act env w) old.ledger.storage w (world_around rest (around old paid))
    (traced r view (act env w) (world_around rest (around old paid)) (record w { meter = new.budget }) refl refl refl (h env is.ledger.header w refl)))

-- ---- the constructor's end

pub void_says : (void : Bool) (id : Hash) → Returns (if_void void id) (λ h. h) (after (only_where void OTHER_TYPE (gives (tt {0}))) (λ _. gives id))
void_says true id w = (refl, refl)
void_says false id w = (refl, refl)
