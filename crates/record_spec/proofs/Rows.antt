-- The host functions, in the run whose demands are noted and in the one with entries.
use Rattle.std.proofs.Common.{◌≡◌, ℕ, ◌==◌, List, [], ◌∷◌, ◌++◌, Option, Some, None, Result, Ok, Err, Bool, true, false, not, refl, sym, ap, subst}
use Rattle.std.specs.Option.{unwrap_or}
use Rattle.std.specs.List.{list_any}
use Rattle.std.specs.Str.{bytes_eq}
use Rattle.std.specs.Prelude.{nat_lt, length, is_some}
use Rattle.budget_meter.specs.declared.kind.Kind.TheVariants.{ComputeSha256Hash}
use Rattle.sha2.specs.Sha256.{sha256}
use Rattle.value_types.specs.Datum.{Datum, boolean, address as address_of}
use Rattle.value_types.specs.Hash.{hash_of}
use Rattle.value_types.specs.declared.hash.Hash.{Hash}
use Rattle.value_types.specs.declared.address.ScAddress.{ScAddress}
use Rattle.value_types.specs.declared.address.ScAddress.TheVariants as addresses
use Rattle.value_types.specs.declared.error.ScError.{ScError}
use Rattle.value_types.specs.declared.error.ScError.TheVariants as errors
use Rattle.invoke_types.specs.declared.event.ContractEvent.{ContractEvent}
use Rattle.invoke_types.specs.ContractId.{contract_id_payload, contract_id_of}
use Rattle.invoke_types.specs.declared.preimage.Preimage.{Preimage}
use Rattle.invoke_types.specs.declared.preimage.Preimage.TheVariants.{FromAddress}
use Rattle.ledger_types.specs.declared.durability.Durability.{Durability}
use Rattle.ledger_types.specs.declared.durability.Durability.TheVariants.{Temporary, Persistent}
use Rattle.ledger_spec.specs.declared.Kept.{Kept}
use Rattle.wasm_spec.specs.declared.module.Module.{Module}
use Rattle.wasm_spec.specs.Stores.{Store}
use Rattle.wasm_spec.specs.Instances.{Start, Missing, WrongArity, Segment, Ready, start_of, function_named}
use Rattle.module_spec.specs.Loading.{module_of}
use Rattle.host_interface.specs.declared.kinds.ArgKind.{ArgKind}
use Rattle.host_spec.specs.Arguments.{Means, argument, dispatched, tagged_words}
use Rattle.host_spec.specs.Answers.{Answer, given, value}
use Rattle.host_spec.specs.Calls.{with_argument}
use Rattle.host_spec.specs.MapRows.{Member, value_at}
use Rattle.auth_spec.specs.Demands.{creates_asset}
use Rattle.call_spec.specs.Errors.{INVALID_STORAGE_INPUT, INVALID_EXTENSION, RESERVED_NAME, REENTERED}
use Rattle.call_spec.specs.World.{AccessKind, Read, Extend, Write, Copied, Frame, World, next_seq}
use Rattle.call_spec.specs.Acts.{Act, world_of, after, gives, fails, only_where, with_frame, sets, lift}
use Rattle.call_spec.specs.Accesses.{Effect, access, puts}
use Rattle.call_spec.specs.Keys.{data_key, data_entry, instance_key, code_entry}
use Rattle.call_spec.specs.Rules.{Rule, applied, charged_then, answered, call_of, nothing, returning}
use Rattle.call_spec.specs.Storage.{extends, members, has, gets, deletes, by_storage, with_storage, put_in_copy, has_in_copy, found_in_copy, get_in_copy, del_in_copy, unless_backward, extending, put_contract_data, has_contract_data, get_contract_data, del_contract_data, extend_contract_data_ttl, extend_current_contract_instance_and_code_ttl}
use Rattle.call_spec.specs.Events.{with_event, emits, update_event, contract_event, fail_with_error}
use Rattle.call_spec.specs.Entering.{argument_entry, only_if_let_in, entering}
use Rattle.call_spec.specs.Demands.{demanded, invocation, requires, require_auth, require_auth_for_args}
use Rattle.call_spec.specs.Frames.{Entered, Opener}
use Rattle.call_spec.specs.Found.{finds_instance, finds_code, code_at, with_module, with_start}
use Rattle.call_spec.specs.Calling.{with_contract, is_running, Call, enters, looks_up, admits, calls_if, calls, call_by, call, try_call}
use Rattle.call_spec.specs.Creating.{CONSTRUCTOR, is_there, puts_code, uploads, Creation, create_function, constructs, constructs_if, builds, id_of, preimage_of, function_of, makes_instance, makes, creates_at, creates, only_hash, upload_wasm, creates_by, with_code, update_current_contract_wasm, get_contract_id}
use Rattle.record_spec.proofs.Apart.{dispatched_apart, given_apart}
use Rattle.record_spec.proofs.Beside.{Setting, Given, noting_env, proving_env, Grows, grows_refl, grows_trans, IsByContract, Beside, Agreeing}
use Rattle.record_spec.proofs.Acts.{good_agrees, fails_agrees, then_grows, after_agrees, where_agrees, if_agrees, with_agrees, frame_agrees, caller_agrees, Keeping, sets_agrees, frame_keeping, begins_agrees, lift_agrees, paying_agrees}
use Rattle.record_spec.proofs.Accesses.{data_agrees, instance_agrees, code_agrees}
use Rattle.record_spec.proofs.Frames.{OpenersAgree, opener_agrees, catching_agrees}
use Rattle.record_spec.proofs.Demanding.{demanded_grows, demanded_agrees}

-- ---- the shape of all rows

module _ (s : Setting) where
  -- each function agrees for all arguments
  abbrev pub RulesAgree : (ks : List ArgKind) → Rule ks → Rule ks → Type 0
  RulesAgree [] rule rule' = Agreeing s rule rule'
  RulesAgree (k ∷ ks) rule rule' = (x : Means k) → RulesAgree ks (rule x) (rule' x)

  abbrev ResultsAgree : Result (Act Answer) ScError → Result (Act Answer) ScError → Type 0
  ResultsAgree (Ok act) (Ok act') = Agreeing s act act'
  ResultsAgree (Err e) (Err d) = e ≡ d
  ResultsAgree _ _ = ⊥

  argument_agrees : {A : Type 0} (r : Result A ScError) (next next' : A → Result (Act Answer) ScError) → ((a : A) → ResultsAgree (next a) (next' a)) → ResultsAgree (with_argument r next) (with_argument r next')
  argument_agrees (Ok a) next next' l = l a
  argument_agrees (Err e) next next' l = refl

  applied_agrees : (ks : List ArgKind) (rule rule' : Rule ks) → RulesAgree ks rule rule' → (words : List ℕ) (shown : List Datum) → ResultsAgree (applied ks rule words shown) (applied ks rule' words shown)
  applied_agrees [] rule rule' h words shown = h
  applied_agrees (k ∷ ks) rule rule' h [] shown = refl
  applied_agrees (k ∷ ks) rule rule' h (word ∷ words) shown =
      argument_agrees (argument k shown word) (λ a. applied ks (rule a) words shown) (λ a. applied ks (rule' a) words shown) (λ a. applied_agrees ks (rule a) (rule' a) (h a) words shown)

  charged_agrees : (charges : Act (Unit {0})) → Agreeing s charges charges → (r r' : Result (Act Answer) ScError) → ResultsAgree r r' → Agreeing s (charged_then charges r) (charged_then charges r')
  charged_agrees charges h (Ok act) (Ok act') l = after_agrees s charges charges (λ _. act) (λ _. act') h (λ _. l)
  charged_agrees charges h (Ok act) (Err d) l = absurd l
  charged_agrees charges h (Err e) (Ok act') l = absurd l
  charged_agrees charges h (Err e) (Err d) l = subst (λ x. Agreeing {A = Answer} s (fails e) (fails x)) l (fails_agrees s e)

  pub call_of_agrees : (ks : List ArgKind) (rule rule' : Rule ks) → RulesAgree ks rule rule' → (words : List ℕ) → Agreeing s (call_of ks rule words) (call_of ks rule' words)
  call_of_agrees ks rule rule' h words =
      after_agrees s (answered ks rule words) (answered ks rule' words) (λ a. lift (given a)) (λ a. lift (given a))
      (frame_agrees s _ _ (λ f. charged_agrees (lift (dispatched (tagged_words ks words))) (lift_agrees s (dispatched (tagged_words ks words)) (dispatched_apart (tagged_words ks words))) _ _ (applied_agrees ks rule rule' h words f.shown)))
      (λ a. lift_agrees s (given a) (given_apart a))

  returning_agrees : {A : Type 0} (act act' : Act A) (view : A → Datum) → Agreeing s act act' → Agreeing s (returning act view) (returning act' view)
  returning_agrees act act' view h = after_agrees s act act' _ _ h (λ a. good_agrees s _)

-- ---- what changes the frame or the events

module _ (s : Setting) where
  storage_keeping : (storage : Option (List Member)) → Keeping s (with_storage storage) (with_storage storage)
  storage_keeping storage = frame_keeping s (λ f. record f { copy = record f.copy { storage = storage } }) (λ f. refl)

  code_keeping : (code : Hash) → Keeping s (with_code code) (with_code code)
  code_keeping code = frame_keeping s (λ f. record f { copy = record f.copy { code = code } }) (λ f. refl)

  event_keeping : (event : ContractEvent) → Keeping s (with_event event) (with_event event)
  event_keeping event = record {
    noted = λ w. refl;
    beside = λ w v b. record {
      noted = b.noted;
      none = b.none;
      empty = b.empty;
      pairs = b.pairs;
      events = ap (λ x. x ++ event ∷ []) b.events;
      frame = b.frame;
      contracts = b.contracts;
      caller = b.caller;
      maps = b.maps;
      free = b.free;
    };
  }

  emits_agrees : (event : ContractEvent) → Agreeing s (emits event) (emits event)
  emits_agrees event = paying_agrees s _ _ _ _ (sets_agrees s (with_event event) _ (event_keeping event))

  pub contract_event_agrees : (topics : List Datum) (content : Datum) → Agreeing s (contract_event topics content) (contract_event topics content)
  contract_event_agrees topics content = frame_agrees s _ _ (λ f. emits_agrees _)

  pub fail_agrees : (e : ScError) → Agreeing s (fail_with_error e) (fail_with_error e)
  fail_agrees (errors.Contract code) = fails_agrees s _
  fail_agrees _ = fails_agrees s _

  pub frame_answer_agrees : (look : Frame → Answer) → Agreeing s (with_frame (λ f. gives (look f))) (with_frame (λ f. gives (look f)))
  frame_answer_agrees look = frame_agrees s _ _ (λ f. good_agrees s (look f))

  copy_put_agrees : (key val : Datum) → Agreeing s (put_in_copy key val) (put_in_copy key val)
  copy_put_agrees key val = frame_agrees s _ _ (λ f. where_agrees s _ _ _ _ (sets_agrees s _ _ (storage_keeping _)))

  copy_found_agrees : (o : Option Datum) → Agreeing s (found_in_copy o) (found_in_copy o)
  copy_found_agrees None = fails_agrees s _
  copy_found_agrees (Some d) = good_agrees s _

  copy_get_agrees : (key : Datum) → Agreeing s (get_in_copy key) (get_in_copy key)
  copy_get_agrees key = frame_agrees s (λ f. found_in_copy (value_at key (members f.copy.storage))) (λ f. found_in_copy (value_at key (members f.copy.storage))) (λ f. copy_found_agrees (value_at key (members f.copy.storage)))

  copy_del_agrees : (key : Datum) → Agreeing s (del_in_copy key) (del_in_copy key)
  copy_del_agrees key = frame_agrees s _ _ (λ f. sets_agrees s _ _ (storage_keeping _))

  storage_agrees : {A : Type 0} (kind : ℕ) (in_ledger in_ledger' : Durability → Act A) (in_copy : Act A) → ((d : Durability) → Agreeing s (in_ledger d) (in_ledger' d)) → Agreeing s in_copy in_copy
      → Agreeing s (by_storage kind in_ledger in_copy) (by_storage kind in_ledger' in_copy)
  storage_agrees kind in_ledger in_ledger' in_copy h g =
      if_agrees s (kind == 0) (in_ledger Temporary) (in_ledger' Temporary) _ _ (h Temporary)
      (if_agrees s (kind == 1) (in_ledger Persistent) (in_ledger' Persistent) _ _ (h Persistent)
      (if_agrees s (kind == 2) in_copy in_copy (fails INVALID_STORAGE_INPUT) (fails INVALID_STORAGE_INPUT) g (fails_agrees s INVALID_STORAGE_INPUT)))

  unless_backward_agrees : {A : Type 0} (threshold extend_to : ℕ) (act act' : Act A) → Agreeing s act act' → Agreeing s (unless_backward threshold extend_to act) (unless_backward threshold extend_to act')
  unless_backward_agrees threshold extend_to act act' h = if_agrees s (nat_lt extend_to threshold) _ _ act act' (fails_agrees s INVALID_STORAGE_INPUT) h

  only_if_let_in_agrees : {A : Type 0} (r : Result Datum ScError) (act act' : Act A) → Agreeing s act act' → Agreeing s (only_if_let_in r act) (only_if_let_in r act')
  only_if_let_in_agrees (Err e) act act' h = fails_agrees s e
  only_if_let_in_agrees (Ok d) act act' h = h

  pub entering_agrees : {A : Type 0} (ds : List Datum) (act act' : Act A) → Agreeing s act act' → Agreeing s (entering ds act) (entering ds act')
  entering_agrees [] act act' h = h
  entering_agrees (d ∷ ds) act act' h = paying_agrees s _ _ _ _ (only_if_let_in_agrees (argument_entry d) _ _ (entering_agrees ds act act' h))

  contract_agrees : {A : Type 0} (address : ScAddress) (next next' : Hash → Act A) → ((c : Hash) → Agreeing s (next c) (next' c)) → Agreeing s (with_contract address next) (with_contract address next')
  contract_agrees (addresses.Contract c) next next' l = l c
  contract_agrees _ next next' l = fails_agrees s _

  module_agrees : {A : Type 0} (o : Option Module) (next next' : Module → Act A) → ((x : Module) → Agreeing s (next x) (next' x)) → Agreeing s (with_module o next) (with_module o next')
  module_agrees None next next' l = fails_agrees s _
  module_agrees (Some x) next next' l = l x

  start_agrees : {A : Type 0} (start : Start) (next next' : ℕ → Store → Act A) → ((i : ℕ) (x : Store) → Agreeing s (next i x) (next' i x)) → Agreeing s (with_start start next) (with_start start next')
  start_agrees Missing next next' l = fails_agrees s _
  start_agrees WrongArity next next' l = fails_agrees s _
  start_agrees Segment next next' l = fails_agrees s _
  start_agrees (Ready i x) next next' l = l i x

  hash_agrees : {A : Type 0} (bs : List ℕ) (next next' : Hash → Act A) → ((h : Hash) → Agreeing s (next h) (next' h)) → Agreeing s (only_hash bs next) (only_hash bs next')
  hash_agrees bs next next' l = where_agrees s _ _ _ _ (l _)

-- ---- the functions of the ledger, and calls

module _ (s : Setting) (known : Given s) where
  entry_agrees : (kind : ℕ) (a : AccessKind) (key : Datum) (effect : Frame → Durability → Option Kept → Effect Answer) (in_copy : Act Answer) → Agreeing s in_copy in_copy
      → Agreeing s (by_storage kind (λ d. with_frame (λ f. access (noting_env s) a (data_key f.contract key d) (effect f d))) in_copy)
      (by_storage kind (λ d. with_frame (λ f. access (proving_env s) a (data_key f.contract key d) (effect f d))) in_copy)
  entry_agrees kind a key effect in_copy h =
      storage_agrees s kind (λ d. with_frame (λ f. access (noting_env s) a (data_key f.contract key d) (effect f d))) (λ d. with_frame (λ f. access (proving_env s) a (data_key f.contract key d) (effect f d))) in_copy
      (λ d. frame_agrees s (λ f. access (noting_env s) a (data_key f.contract key d) (effect f d)) (λ f. access (proving_env s) a (data_key f.contract key d) (effect f d))
      (λ f. data_agrees s known a f.contract key d (effect f d))) h

  pub put_agrees : (key val : Datum) (kind : ℕ) → Agreeing s (put_contract_data (noting_env s) key val kind) (put_contract_data (proving_env s) key val kind)
  put_agrees key val kind = entry_agrees kind Write key (λ f d. puts (noting_env s) (data_entry (next_seq s.header) f.contract key d val) nothing) (put_in_copy key val) (copy_put_agrees s key val)

  pub has_agrees : (key : Datum) (kind : ℕ) → Agreeing s (has_contract_data (noting_env s) key kind) (has_contract_data (proving_env s) key kind)
  has_agrees key kind = entry_agrees kind Read key (λ f d. has) (has_in_copy key)
      (frame_answer_agrees s (λ f. value (boolean (is_some (value_at key (members f.copy.storage))))))

  pub get_agrees : (key : Datum) (kind : ℕ) → Agreeing s (get_contract_data (noting_env s) key kind) (get_contract_data (proving_env s) key kind)
  get_agrees key kind = entry_agrees kind Read key (λ f d. gets) (get_in_copy key) (copy_get_agrees s key)

  pub del_agrees : (key : Datum) (kind : ℕ) → Agreeing s (del_contract_data (noting_env s) key kind) (del_contract_data (proving_env s) key kind)
  del_agrees key kind = entry_agrees kind Write key (λ f d. deletes) (del_in_copy key) (copy_del_agrees s key)

  pub extend_agrees : (key : Datum) (kind threshold extend_to : ℕ) → Agreeing s (extend_contract_data_ttl (noting_env s) key kind threshold extend_to) (extend_contract_data_ttl (proving_env s) key kind threshold extend_to)
  extend_agrees key kind threshold extend_to =
      storage_agrees s kind
      (λ d. unless_backward threshold extend_to (with_frame (λ f. extending (noting_env s) (data_key f.contract key d) threshold extend_to)))
      (λ d. unless_backward threshold extend_to (with_frame (λ f. extending (proving_env s) (data_key f.contract key d) threshold extend_to)))
      (fails INVALID_EXTENSION)
      (λ d. unless_backward_agrees s threshold extend_to (with_frame (λ f. extending (noting_env s) (data_key f.contract key d) threshold extend_to)) (with_frame (λ f. extending (proving_env s) (data_key f.contract key d) threshold extend_to))
      (frame_agrees s (λ f. extending (noting_env s) (data_key f.contract key d) threshold extend_to) (λ f. extending (proving_env s) (data_key f.contract key d) threshold extend_to)
      (λ f. data_agrees s known Extend f.contract key d (extends (noting_env s) threshold extend_to))))
      (fails_agrees s INVALID_EXTENSION)

  pub extend_both_agrees : (threshold extend_to : ℕ) → Agreeing s (extend_current_contract_instance_and_code_ttl (noting_env s) threshold extend_to) (extend_current_contract_instance_and_code_ttl (proving_env s) threshold extend_to)
  extend_both_agrees threshold extend_to =
      unless_backward_agrees s threshold extend_to _ _ (frame_agrees s _ _ (λ f. after_agrees s _ _ _ _ (instance_agrees s known Extend f.contract (extends (noting_env s) threshold extend_to)) (λ _. code_agrees s known Extend f.code (extends (noting_env s) threshold extend_to))))

  code_at_agrees : (hash : Hash) → Agreeing s (code_at (noting_env s) hash) (code_at (proving_env s) hash)
  code_at_agrees hash = code_agrees s known Read hash finds_code

  puts_code_agrees : (b : Bool) (hash : Hash) (code : List ℕ) → Agreeing s (puts_code b (noting_env s) hash code) (puts_code b (proving_env s) hash code)
  puts_code_agrees true hash code = good_agrees s hash
  puts_code_agrees false hash code = code_agrees s known Write hash (puts (noting_env s) (code_entry (next_seq s.header) hash code) hash)

  pub uploads_agrees : (code : List ℕ) → Agreeing s (uploads (noting_env s) code) (uploads (proving_env s) code)
  uploads_agrees code =
      paying_agrees s _ _ _ _ (paying_agrees s _ _ _ _ (where_agrees s _ _ _ _
      (after_agrees s _ _ _ _ (code_agrees s known Read (hash_of (sha256 code)) is_there) (λ b. puts_code_agrees b (hash_of (sha256 code)) code))))

  pub upload_agrees : (code : List ℕ) → Agreeing s (upload_wasm (noting_env s) code) (upload_wasm (proving_env s) code)
  upload_agrees code = returning_agrees s _ _ _ (uploads_agrees code)

  pub update_agrees : (code : List ℕ) → Agreeing s (update_current_contract_wasm (noting_env s) code) (update_current_contract_wasm (proving_env s) code)
  update_agrees code = hash_agrees s code _ _ (λ h. after_agrees s _ _ _ _ (code_at_agrees h) (λ _. frame_agrees s _ _ (λ f.
      after_agrees s _ _ (λ _. sets (with_code h) nothing) (λ _. sets (with_code h) nothing) (emits_agrees s (update_event f.contract f.copy.code h)) (λ _. sets_agrees s (with_code h) nothing (code_keeping s h)))))

  pub id_agrees : (deployer : ScAddress) (salt : List ℕ) → Agreeing s (get_contract_id (noting_env s) deployer salt) (get_contract_id (proving_env s) deployer salt)
  id_agrees deployer salt = hash_agrees s salt _ _ (λ h.
      let preimage : Preimage = FromAddress deployer h in
      let id : Hash = contract_id_of s.header.network_id preimage in
      paying_agrees s ComputeSha256Hash (length (contract_id_payload s.header.network_id preimage)) _ _
      (returning_agrees s (gives id) (gives id) (λ x. address_of (addresses.Contract x)) (good_agrees s id)))

  enters_agrees : (f g : Entered → Act Datum) → ((e : Entered) → IsByContract e.caller → Agreeing s (f e) (g e)) → (c : Call) → IsByContract c.caller → (contract : Hash) (copy : Copied) (path code : List ℕ) → Agreeing s (enters f c contract copy path code) (enters g c contract copy path code)
  enters_agrees f g l c by contract copy path code =
      paying_agrees s _ _ _ _ (module_agrees s (module_of code) _ _ (λ x. start_agrees s (start_of x c.function (length c.args)) _ _ (λ i x. l _ by)))

  looks_up_agrees : (f g : Entered → Act Datum) → ((e : Entered) → IsByContract e.caller → Agreeing s (f e) (g e)) → (c : Call) → IsByContract c.caller → (contract : Hash) (path : List ℕ) → Agreeing s (looks_up (noting_env s) f c contract path) (looks_up (proving_env s) g c contract path)
  looks_up_agrees f g l c by contract path =
      after_agrees s _ _ _ _ (instance_agrees s known Read contract finds_instance) (λ copy.
      after_agrees s _ _ _ _ (code_at_agrees copy.code) (enters_agrees f g l c by contract copy path))

  admits_agrees : (f g : Entered → Act Datum) → ((e : Entered) → IsByContract e.caller → Agreeing s (f e) (g e)) → (named : Bool) (c : Call) → IsByContract c.caller → (path : List ℕ) (contract : Hash)
      → Agreeing s (admits named (noting_env s) f c path contract) (admits named (proving_env s) g c path contract)
  admits_agrees f g l named c by path contract =
      where_agrees s named RESERVED_NAME _ _ (with_agrees s (is_running contract) (λ running. only_where (not running) REENTERED (looks_up (noting_env s) f c contract path)) (λ running. only_where (not running) REENTERED (looks_up (proving_env s) g c contract path)) running_same
      (λ running. where_agrees s (not running) REENTERED _ _ (looks_up_agrees f g l c by contract path)))
    where
      running_same : (w v : World) → Beside s w v → is_running contract w ≡ is_running contract v
      running_same w v b = ap (λ x. list_any (λ other. bytes_eq contract.0 other.0) x) (sym b.contracts)

  constructs_agrees : (f g : Entered → Act Datum) → ((e : Entered) → IsByContract e.caller → Agreeing s (f e) (g e)) → (creator : Option ScAddress) → IsByContract creator → (id code : Hash) (args : List Datum) (path : List ℕ) (x : Module)
      → Agreeing s (constructs f creator id code args path x) (constructs g creator id code args path x)
  constructs_agrees f g l creator by id code args path x =
      start_agrees s (start_of x _ (length args)) _ _ (λ i y. after_agrees s _ _ _ _ (l _ by) (λ d. where_agrees s _ _ _ _ (good_agrees s tt)))

  module _ (opener opener' : Opener) (opens : OpenersAgree s opener opener') where
    calls_if_agrees : (named : Bool) (c : Call) → IsByContract c.caller → Agreeing s (calls_if named (noting_env s) opener c) (calls_if named (proving_env s) opener' c)
    calls_if_agrees named c by = begins_agrees s _ _ (λ path. opener_agrees s opener opener' opens _ _ (λ f g l.
        contract_agrees s c.address _ _ (admits_agrees f g l named c by path)))

    pub calls_agrees : (c : Call) → IsByContract c.caller → Agreeing s (calls (noting_env s) opener c) (calls (proving_env s) opener' c)
    calls_agrees c by = calls_if_agrees _ c by

    -- ---- demands

    requires_agrees : (address : ScAddress) (args : List Datum) (f : Frame) → IsByContract f.caller → Agreeing s (requires (noting_env s) opener address args f) (requires (proving_env s) opener' address args f)
    requires_agrees address args f by = after_agrees s _ _ _ _ (demanded_agrees s known opener opener' f.path f.caller address (invocation f args) by refl) (λ _. good_agrees s nothing)

    requires_grows : (address : ScAddress) (args : List Datum) (f : Frame) (w : World) → Grows w.noted (world_of (requires (noting_env s) opener address args f w)).noted
    requires_grows address args f w =
        grows_trans w.noted _ _ (demanded_grows s opener f.path f.caller address (invocation f args) refl w)
        (then_grows s (demanded (noting_env s) opener f.path f.caller address (invocation f args) w) (λ _. gives nothing) (λ _ u. grows_refl u.noted))

    pub auth_agrees : (address : ScAddress) → Agreeing s (require_auth (noting_env s) opener address) (require_auth (proving_env s) opener' address)
    auth_agrees address = caller_agrees s _ _ (λ f. requires_grows address f.args f) (λ f. requires_agrees address f.args f)

    pub auth_for_args_agrees : (address : ScAddress) (args : List Datum)
        → Agreeing s (require_auth_for_args (noting_env s) opener address args) (require_auth_for_args (proving_env s) opener' address args)
    auth_for_args_agrees address args = caller_agrees s _ _ (λ f. requires_grows address args f) (λ f. requires_agrees address args f)

    -- ---- calls and creates

    call_by_agrees : (make make' : Call → Act Datum) → ((c : Call) → IsByContract c.caller → Agreeing s (make c) (make' c)) → (address : ScAddress) (function : List ℕ) (args : List Datum) → Agreeing s (call_by make address function args) (call_by make' address function args)
    call_by_agrees make make' l address function args = frame_agrees s _ _ (λ f. l _ tt)

    pub call_agrees : (address : ScAddress) (function : List ℕ) (args : List Datum) → Agreeing s (call (noting_env s) opener address function args) (call (proving_env s) opener' address function args)
    call_agrees address function args = returning_agrees s _ _ _ (call_by_agrees _ _ calls_agrees address function args)

    pub try_call_agrees : (address : ScAddress) (function : List ℕ) (args : List Datum) → Agreeing s (try_call (noting_env s) opener address function args) (try_call (proving_env s) opener' address function args)
    try_call_agrees address function args = returning_agrees s _ _ _ (call_by_agrees _ _ (λ c by. catching_agrees s _ _ (calls_agrees c by)) address function args)

    constructs_if_agrees : (o : Option ℕ) (creator : Option ScAddress) → IsByContract creator → (id code : Hash) (args : List Datum) (path : List ℕ) (x : Module)
        → Agreeing s (constructs_if o opener creator id code args path x) (constructs_if o opener' creator id code args path x)
    constructs_if_agrees None creator by id code args path x = where_agrees s _ _ _ _ (good_agrees s tt)
    constructs_if_agrees (Some i) creator by id code args path x = opener_agrees s opener opener' opens _ _ (λ f g l. constructs_agrees f g l creator by id code args path x)

    builds_agrees : (creator : Option ScAddress) → IsByContract creator → (c : Creation) (id : Hash) (path code : List ℕ) → Agreeing s (builds opener creator c id path code) (builds opener' creator c id path code)
    builds_agrees creator by c id path code = paying_agrees s _ _ _ _ (module_agrees s (module_of code) _ _ (λ x. constructs_if_agrees (function_named CONSTRUCTOR x.exports) creator by id c.code (unwrap_or c.args []) path x))

    makes_agrees : (creator : Option ScAddress) → IsByContract creator → (c : Creation) (path code : List ℕ) → Agreeing s (makes (noting_env s) opener creator c path code) (makes (proving_env s) opener' creator c path code)
    makes_agrees creator by c path code =
        let id : Hash = id_of (noting_env s) c in
        after_agrees s (access (noting_env s) Write (instance_key id) (makes_instance (noting_env s) id c.code)) (access (proving_env s) Write (instance_key id) (makes_instance (proving_env s) id c.code))
        (λ _. after (builds opener creator c id path code) (λ _. gives id)) (λ _. after (builds opener' creator c id path code) (λ _. gives id))
        (instance_agrees s known Write id (makes_instance (noting_env s) id c.code))
        (λ _. after_agrees s (builds opener creator c id path code) (builds opener' creator c id path code) (λ _. gives id) (λ _. gives id) (builds_agrees creator by c id path code) (λ _. good_agrees s id))

    plain_create : (deployer : ScAddress) (salt code : Hash) (args : Option (List Datum)) → creates_asset (create_function (FromAddress deployer salt) code args) ≡ false
    plain_create deployer salt code None = refl
    plain_create deployer salt code (Some args) = refl

    creates_at_agrees : (creator : Option ScAddress) → IsByContract creator → (c : Creation) (path : List ℕ) → Agreeing s (creates_at (noting_env s) opener creator c path) (creates_at (proving_env s) opener' creator c path)
    creates_at_agrees creator by c path =
        let ask : Act (Unit {0}) = demanded (noting_env s) opener path creator c.deployer (function_of c) in
        let ask' : Act (Unit {0}) = demanded (proving_env s) opener' path creator c.deployer (function_of c) in
        let next : Act Hash = after (code_at (noting_env s) c.code) (makes (noting_env s) opener creator c path) in
        let next' : Act Hash = after (code_at (proving_env s) c.code) (makes (proving_env s) opener' creator c path) in
        paying_agrees s ComputeSha256Hash (length (contract_id_payload s.header.network_id (preimage_of c))) (after ask (λ _. next)) (after ask' (λ _. next'))
        (after_agrees s ask ask' (λ _. next) (λ _. next') (demanded_agrees s known opener opener' path creator c.deployer (function_of c) by (plain_create c.deployer c.salt c.code c.args))
        (λ _. after_agrees s (code_at (noting_env s) c.code) (code_at (proving_env s) c.code) (makes (noting_env s) opener creator c path) (makes (proving_env s) opener' creator c path) (code_at_agrees c.code) (makes_agrees creator by c path)))

    pub creates_agrees : (creator : Option ScAddress) → IsByContract creator → (c : Creation) → Agreeing s (creates (noting_env s) opener creator c) (creates (proving_env s) opener' creator c)
    creates_agrees creator by c = begins_agrees s (creates_at (noting_env s) opener creator c) (creates_at (proving_env s) opener' creator c) (creates_at_agrees creator by c)

    pub creates_by_agrees : (deployer : ScAddress) (code salt : List ℕ) (args : Option (List Datum)) → Agreeing s (creates_by (noting_env s) opener deployer code salt args) (creates_by (proving_env s) opener' deployer code salt args)
    creates_by_agrees deployer code salt args = hash_agrees s code _ _ (λ c. hash_agrees s salt _ _ (λ z.
        let create : Frame → Act Hash = λ f. creates (noting_env s) opener (Some (addresses.Contract f.contract)) (record { deployer = deployer; code = c; salt = z; args = args }) in
        let create' : Frame → Act Hash = λ f. creates (proving_env s) opener' (Some (addresses.Contract f.contract)) (record { deployer = deployer; code = c; salt = z; args = args }) in
        frame_agrees s (λ f. returning (create f) (λ id. address_of (addresses.Contract id))) (λ f. returning (create' f) (λ id. address_of (addresses.Contract id)))
        (λ f. returning_agrees s (create f) (create' f) (λ id. address_of (addresses.Contract id)) (creates_agrees (Some (addresses.Contract f.contract)) tt (record { deployer = deployer; code = c; salt = z; args = args })))))
