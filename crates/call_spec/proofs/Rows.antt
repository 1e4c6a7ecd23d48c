-- The host functions under a judge and under none.
use Rattle.std.proofs.lemmas.Bool.Decides.{nat_tests}
use Rattle.std.proofs.Common.{◌≡◌, ℕ, ◌==◌, arith, List, [], ◌∷◌, Option, Some, None, Result, Ok, Err, Bool, true, false, not, refl, subst}
use Rattle.std.specs.Option.{unwrap_or}
use Rattle.std.specs.Prelude.{nat_lt, nat_le, length, is_some, ◌+◌, ◌-◌, ◌&&◌, ◌≤◌, if◌then◌else◌}
use Rattle.budget_meter.specs.declared.kind.Kind.TheVariants.{ComputeSha256Hash}
use Rattle.sha2.specs.Sha256.{sha256}
use Rattle.value_types.specs.Datum.{Datum, boolean, address as address_of, bare_instance, instance, Members}
use Rattle.value_types.specs.Views.{datum}
use Rattle.value_types.specs.Hash.{hash_of}
use Rattle.value_types.specs.declared.executable.Executable.TheVariants.{Wasm, StellarAsset}
use Rattle.value_types.specs.declared.hash.Hash.{Hash}
use Rattle.value_types.specs.declared.address.ScAddress.{ScAddress}
use Rattle.value_types.specs.declared.address.ScAddress.TheVariants as addresses
use Rattle.value_types.specs.declared.error.ScError.{ScError}
use Rattle.value_types.specs.declared.error.ScError.TheVariants as errors
use Rattle.invoke_types.specs.declared.event.ContractEvent.{ContractEvent}
use Rattle.invoke_types.specs.ContractId.{contract_id_payload, contract_id_of}
use Rattle.invoke_types.specs.declared.preimage.Preimage.{Preimage}
use Rattle.invoke_types.specs.declared.preimage.Preimage.TheVariants.{FromAddress}
use Rattle.invoke_types.specs.declared.function.Function.{Function}
use Rattle.ledger_types.specs.declared.durability.Durability.{Durability}
use Rattle.ledger_types.specs.declared.durability.Durability.TheVariants.{Temporary, Persistent}
use Rattle.ledger_types.specs.declared.entry.LedgerEntryData.{LedgerEntryData}
use Rattle.ledger_types.specs.declared.entry.LedgerEntryData.TheVariants.{ContractData, ContractCode}
use Rattle.ledger_types.specs.declared.header.Header.{Header}
use Rattle.ledger_types.specs.declared.key.LedgerKey.{LedgerKey}
use Rattle.ledger_spec.specs.declared.Kept.{Kept}
use Rattle.ledger_spec.specs.LedgerMap.{LedgerMap, key_bytes}
use Rattle.ledger_spec.specs.Changes.{asked_life, longer}
use Rattle.wasm_spec.specs.declared.module.Module.{Module}
use Rattle.wasm_spec.specs.Stores.{Store}
use Rattle.wasm_spec.specs.Instances.{Start, Missing, WrongArity, Segment, Ready, start_of, function_named}
use Rattle.module_spec.specs.Loading.{module_of}
use Rattle.host_interface.specs.declared.kinds.ArgKind.{ArgKind}
use Rattle.host_spec.specs.Arguments.{Means, argument, dispatched, tagged_words}
use Rattle.host_spec.specs.Answers.{Answer, given, value}
use Rattle.host_spec.specs.Calls.{with_argument}
use Rattle.host_spec.specs.MapRows.{Member, value_at}
use Rattle.call_spec.specs.Errors.{INVALID_STORAGE_INPUT, INVALID_EXTENSION, RESERVED_NAME, REENTERED, EXPIRED, DENIED}
use Rattle.call_spec.specs.World.{AccessKind, Read, Extend, Write, Judge, Copied, Frame, Env, Authority}
use Rattle.call_spec.specs.Acts.{Act, after, gives, fails, only_where, with_frame, sets, lift}
use Rattle.call_spec.specs.Accesses.{Effect, access, puts}
use Rattle.call_spec.specs.Keys.{data_key, data_entry, instance_key, instance_entry, code_key, code_entry}
use Rattle.call_spec.specs.Rules.{Rule, applied, charged_then, answered, call_of, nothing, returning}
use Rattle.call_spec.specs.Storage.{let_in, value_in, lengthens, extends, members, has, gets, deletes, by_storage, with_storage, put_in_copy, has_in_copy, found_in_copy, get_in_copy, del_in_copy, unless_backward, extending, put_contract_data, has_contract_data, get_contract_data, del_contract_data, extend_contract_data_ttl, extend_current_contract_instance_and_code_ttl}
use Rattle.call_spec.specs.Events.{with_event, emits, update_event, contract_event, fail_with_error}
use Rattle.auth_spec.specs.Demands.{Choice, ByNode, ByCaller, ByNothing, ByNote}
use Rattle.auth_spec.specs.Authorities.{choice_by}
use Rattle.auth_types.specs.declared.credentials.AddressCredentials.{AddressCredentials}
use Rattle.auth_types.specs.declared.credentials.Credentials.{Credentials}
use Rattle.auth_types.specs.declared.credentials.Credentials.TheVariants.{SourceAccount, Address}
use Rattle.auth_types.specs.declared.invocation.Invocation.{Invocation}
use Rattle.auth_types.specs.declared.auth_entry.AuthEntry.{AuthEntry}
use Rattle.call_spec.specs.Entering.{argument_entry, only_if_let_in, entering}
use Rattle.call_spec.specs.Asking.{nonce_key, uses, is_valid_until, check_args, check_of, checks, asks, proves}
use Rattle.call_spec.specs.Demands.{with_choice, keeps, proves_entry, proves_root, owes, met, demanded, invocation, requires, require_auth, require_auth_for_args}
use Rattle.call_spec.specs.Frames.{Entered, Opener, is_void}
use Rattle.call_spec.specs.Found.{with_entered, instance_in, instance_of_data, finds_instance, code_of_data, finds_code, code_at, with_module, with_start}
use Rattle.call_spec.specs.Calling.{with_contract, is_running, Call, enters, looks_up, admits, calls_if, calls, call_by, call, try_call}
use Rattle.call_spec.specs.Creating.{CONSTRUCTOR, new_instance, is_there, puts_code, uploads, Creation, constructs, constructs_if, builds, id_of, preimage_of, function_of, makes_instance, makes, creates_at, creates, only_hash, upload_wasm, creates_by, with_code, update_current_contract_wasm, get_contract_id}
use Rattle.call_spec.specs.Laws.{IsExtended}
use Rattle.call_spec.proofs.Acts.{Sound, Watch, Local, Besides, good_local, fails_local, after_local, where_local, if_local, with_local, frame_local, sets_local, begins_local, lift_local, paying_local}
use Rattle.call_spec.proofs.Accesses.{free, held, IsFineAt, Puts, PutsFound, Fair, Still, Gentle, GentleUnless, access_local}
use Rattle.wasm_spec.proofs.Lemmas.{same}
use Rattle.call_spec.proofs.Sums.{dispatched_rises, given_rises}
use Rattle.call_spec.proofs.Frames.{OpenersLocal, opener_local, denying_local, catching_local}

-- ---- the shape of all rows

module _ (may : Judge) (m n : LedgerMap) (P : Watch) where
  -- each function has for all arguments the same effect under the judge
  abbrev pub RulesLocal : (ks : List ArgKind) → Rule ks → Rule ks → Type 0
  RulesLocal [] rule rule' = Local may m n P rule rule'
  RulesLocal (k ∷ ks) rule rule' = (x : Means k) → RulesLocal ks (rule x) (rule' x)

  abbrev ResultsLocal : Result (Act Answer) ScError → Result (Act Answer) ScError → Type 0
  ResultsLocal (Ok act) (Ok act') = Local may m n P act act'
  ResultsLocal (Err e) (Err d) = e ≡ d
  ResultsLocal _ _ = ⊥

  argument_local : {A : Type 0} (r : Result A ScError) (next next' : A → Result (Act Answer) ScError) → ((a : A) → ResultsLocal (next a) (next' a)) → ResultsLocal (with_argument r next) (with_argument r next')
  argument_local (Ok a) next next' l = l a
  argument_local (Err e) next next' l = refl

  applied_local : (ks : List ArgKind) (rule rule' : Rule ks) → RulesLocal ks rule rule' → (words : List ℕ) (shown : List Datum) → ResultsLocal (applied ks rule words shown) (applied ks rule' words shown)
  applied_local [] rule rule' h words shown = h
  applied_local (k ∷ ks) rule rule' h [] shown = refl
  applied_local (k ∷ ks) rule rule' h (word ∷ words) shown =
      argument_local (argument k shown word) (λ a. applied ks (rule a) words shown) (λ a. applied ks (rule' a) words shown) (λ a. applied_local ks (rule a) (rule' a) (h a) words shown)

  charged_local : (charges : Act (Unit {0})) → Local may m n P charges charges → (r r' : Result (Act Answer) ScError) → ResultsLocal r r' → Local may m n P (charged_then charges r) (charged_then charges r')
  charged_local charges h (Ok act) (Ok act') l = after_local may m n P charges charges (λ _. act) (λ _. act') h (λ _. l)
  charged_local charges h (Ok act) (Err d) l = absurd l
  charged_local charges h (Err e) (Ok act') l = absurd l
  charged_local charges h (Err e) (Err d) l = subst (λ x. Local {A = Answer} may m n P (fails e) (fails x)) l (fails_local may m n P e)

  pub call_of_local : (ks : List ArgKind) (rule rule' : Rule ks) → RulesLocal ks rule rule' → (words : List ℕ) → Local may m n P (call_of ks rule words) (call_of ks rule' words)
  call_of_local ks rule rule' h words =
      after_local may m n P (answered ks rule words) (answered ks rule' words) (λ a. lift (given a)) (λ a. lift (given a))
      (frame_local may m n P _ _ (λ f. charged_local (lift (dispatched (tagged_words ks words))) (lift_local may m n P (dispatched (tagged_words ks words)) (λ q. dispatched_rises (tagged_words ks words))) _ _ (applied_local ks rule rule' h words f.shown)))
      (λ a. lift_local may m n P (given a) (λ q. given_rises a))

  returning_local : {A : Type 0} (act act' : Act A) (view : A → Datum) → Local may m n P act act' → Local may m n P (returning act view) (returning act' view)
  returning_local act act' view h = after_local may m n P act act' _ _ h (λ a. good_local may m n P _)

-- ---- what leaves the map

storage_besides : (storage : Option (List Member)) → Besides (with_storage storage)
storage_besides storage = record { apart = λ w q. refl; map = λ w. refl; trace = λ w. refl }

event_besides : (event : ContractEvent) → Besides (with_event event)
event_besides event = record { apart = λ w q. refl; map = λ w. refl; trace = λ w. refl }

choice_besides : (path : List ℕ) (address : ScAddress) (function : Function) (c : Choice) → Besides (with_choice path address function c)
choice_besides path address function c = record { apart = λ w q. refl; map = λ w. refl; trace = λ w. refl }

code_besides : (code : Hash) → Besides (with_code code)
code_besides code = record { apart = λ w q. refl; map = λ w. refl; trace = λ w. refl }

module _ (may : Judge) (m n : LedgerMap) (P : Watch) where
  emits_local : (event : ContractEvent) → Local may m n P (emits event) (emits event)
  emits_local event = paying_local may m n P _ _ _ _ (sets_local may m n P (with_event event) _ (event_besides event) (λ q w. same w.meter))

  pub contract_event_local : (topics : List Datum) (content : Datum) → Local may m n P (contract_event topics content) (contract_event topics content)
  contract_event_local topics content = frame_local may m n P _ _ (λ f. emits_local _)

  pub fail_local : (e : ScError) → Local may m n P (fail_with_error e) (fail_with_error e)
  fail_local (errors.Contract code) = fails_local may m n P _
  fail_local _ = fails_local may m n P _

  pub frame_answer_local : (look : Frame → Answer) → Local may m n P (with_frame (λ f. gives (look f))) (with_frame (λ f. gives (look f)))
  frame_answer_local look = frame_local may m n P _ _ (λ f. good_local may m n P (look f))

  copy_put_local : (key val : Datum) → Local may m n P (put_in_copy key val) (put_in_copy key val)
  copy_put_local key val = frame_local may m n P _ _ (λ f. where_local may m n P _ _ _ _ (sets_local may m n P _ _ (storage_besides _) (λ q w. same w.meter)))

  copy_found_local : (o : Option Datum) → Local may m n P (found_in_copy o) (found_in_copy o)
  copy_found_local None = fails_local may m n P _
  copy_found_local (Some d) = good_local may m n P _

  copy_get_local : (key : Datum) → Local may m n P (get_in_copy key) (get_in_copy key)
  copy_get_local key = frame_local may m n P (λ f. found_in_copy (value_at key (members f.copy.storage))) (λ f. found_in_copy (value_at key (members f.copy.storage))) (λ f. copy_found_local (value_at key (members f.copy.storage)))

  copy_del_local : (key : Datum) → Local may m n P (del_in_copy key) (del_in_copy key)
  copy_del_local key = frame_local may m n P _ _ (λ f. sets_local may m n P _ _ (storage_besides _) (λ q w. same w.meter))

  storage_local : {A : Type 0} (kind : ℕ) (in_ledger in_ledger' : Durability → Act A) (in_copy : Act A) → ((d : Durability) → Local may m n P (in_ledger d) (in_ledger' d)) → Local may m n P in_copy in_copy
      → Local may m n P (by_storage kind in_ledger in_copy) (by_storage kind in_ledger' in_copy)
  storage_local kind in_ledger in_ledger' in_copy h g =
      if_local may m n P (kind == 0) (in_ledger Temporary) (in_ledger' Temporary) _ _ (h Temporary)
      (if_local may m n P (kind == 1) (in_ledger Persistent) (in_ledger' Persistent) _ _ (h Persistent)
      (if_local may m n P (kind == 2) in_copy in_copy (fails INVALID_STORAGE_INPUT) (fails INVALID_STORAGE_INPUT) g (fails_local may m n P INVALID_STORAGE_INPUT)))

  unless_backward_local : {A : Type 0} (threshold extend_to : ℕ) (act act' : Act A) → Local may m n P act act' → Local may m n P (unless_backward threshold extend_to act) (unless_backward threshold extend_to act')
  unless_backward_local threshold extend_to act act' h = if_local may m n P (nat_lt extend_to threshold) _ _ act act' (fails_local may m n P INVALID_STORAGE_INPUT) h

  only_if_let_in_local : {A : Type 0} (r : Result Datum ScError) (act act' : Act A) → Local may m n P act act' → Local may m n P (only_if_let_in r act) (only_if_let_in r act')
  only_if_let_in_local (Err e) act act' h = fails_local may m n P e
  only_if_let_in_local (Ok d) act act' h = h

  pub entering_local : {A : Type 0} (ds : List Datum) (act act' : Act A) → Local may m n P act act' → Local may m n P (entering ds act) (entering ds act')
  entering_local [] act act' h = h
  entering_local (d ∷ ds) act act' h = paying_local may m n P _ _ _ _ (only_if_let_in_local (argument_entry d) _ _ (entering_local ds act act' h))

  contract_local : {A : Type 0} (address : ScAddress) (next next' : Hash → Act A) → ((c : Hash) → Local may m n P (next c) (next' c)) → Local may m n P (with_contract address next) (with_contract address next')
  contract_local (addresses.Contract c) next next' l = l c
  contract_local _ next next' l = fails_local may m n P _

  module_local : {A : Type 0} (o : Option Module) (next next' : Module → Act A) → ((x : Module) → Local may m n P (next x) (next' x)) → Local may m n P (with_module o next) (with_module o next')
  module_local None next next' l = fails_local may m n P _
  module_local (Some x) next next' l = l x

  start_local : {A : Type 0} (s : Start) (next next' : ℕ → Store → Act A) → ((i : ℕ) (x : Store) → Local may m n P (next i x) (next' i x)) → Local may m n P (with_start s next) (with_start s next')
  start_local Missing next next' l = fails_local may m n P _
  start_local WrongArity next next' l = fails_local may m n P _
  start_local Segment next next' l = fails_local may m n P _
  start_local (Ready i x) next next' l = l i x

  hash_local : {A : Type 0} (bs : List ℕ) (next next' : Hash → Act A) → ((h : Hash) → Local may m n P (next h) (next' h)) → Local may m n P (only_hash bs next) (only_hash bs next')
  hash_local bs next next' l = where_local may m n P _ _ _ _ (l _)

-- ---- what reads and extensions leave

let_in_still : (r : Result Datum ScError) → Still (let_in r)
let_in_still (Ok d) = tt
let_in_still (Err e) = tt

value_still : (x : LedgerEntryData) → Still (value_in x)
value_still (ContractData e) = let_in_still _
value_still (ContractCode e) = tt

gets_still : (found : Option Kept) → Still (gets found)
gets_still None = tt
gets_still (Some kept) = value_still kept.entry.data

at_most : (a b : ℕ) → nat_lt a b ≡ true → a ≤ b
at_most a b e = grind (arith, nat_tests, e)

pub longer_extended : (number : ℕ) (kept : Kept) (threshold life : ℕ) → IsExtended (Some kept) (Some (longer number kept threshold life))
longer_extended number kept threshold life = at (nat_lt kept.live_until life) (nat_le (kept.live_until - number) threshold) refl
  where
    at : (b c : Bool) → nat_lt kept.live_until life ≡ b → IsExtended (Some kept) (Some (if b && c then record kept { live_until = life } else kept))
    at true true e = (refl, at_most kept.live_until life e)
    at true false e = (refl, omega arith)
    at false c e = (refl, omega arith)

lengthens_gentle : (life : Option ℕ) (number : ℕ) (kept : Kept) (threshold : ℕ) → Gentle (Some kept) (lengthens life number kept threshold)
lengthens_gentle None number kept threshold = tt
lengthens_gentle (Some life) number kept threshold = longer_extended number kept threshold life

extends_gentle : (env : Env) (threshold extend_to : ℕ) (found : Option Kept) → Gentle found (extends env threshold extend_to found)
extends_gentle env threshold extend_to None = tt
extends_gentle env threshold extend_to (Some kept) = lengthens_gentle _ _ kept threshold

code_still : (found : Option Kept) → Still (finds_code found)
code_still None = tt
code_still (Some kept) = at kept.entry.data
  where
    at : (x : LedgerEntryData) → Still (code_of_data x)
    at (ContractData e) = tt
    at (ContractCode e) = tt

entered_still : (code : Hash) (ms : Members) (r : Result Datum ScError) → Still (with_entered code ms r)
entered_still code ms (Ok d) = tt
entered_still code ms (Err e) = tt

instance_in_still : (d : Datum) → Still (instance_in d)
instance_in_still (bare_instance (Wasm code)) = tt
instance_in_still (bare_instance StellarAsset) = tt
instance_in_still (instance (Wasm code) ms) = entered_still code ms _
instance_in_still (instance StellarAsset ms) = tt
instance_in_still _ = tt

instance_still : (found : Option Kept) → Still (finds_instance found)
instance_still None = tt
instance_still (Some kept) = at kept.entry.data
  where
    at : (x : LedgerEntryData) → Still (instance_of_data x)
    at (ContractData e) = instance_in_still (datum e.val)
    at (ContractCode e) = tt

-- ---- the functions of the ledger, and calls

module _ (may : Judge) (m n : LedgerMap) (P : Watch) (sound : Sound may) (header : Header) (authority : Authority) (fair : Fair header P) where
  deletes_puts : (key : LedgerKey) (found : Option Kept) → Puts P key (deletes found)
  deletes_puts key None = tt
  deletes_puts key (Some kept) = tt

  lengthens_puts : (key : LedgerKey) (kept : Kept) (threshold extend_to : ℕ) → P.is (key_bytes key) kept → (life : Option ℕ) → asked_life header.settings (header.seq + 1) kept.entry extend_to ≡ life
      → Puts P key (lengthens life (header.seq + 1) kept threshold)
  lengthens_puts key kept threshold extend_to h None asked = tt
  lengthens_puts key kept threshold extend_to h (Some life) asked = fair.longer (key_bytes key) kept threshold extend_to life asked h

  extends_puts : (key : LedgerKey) (threshold extend_to : ℕ) (found : Option Kept) → IsFineAt P key found → Puts P key (extends (free header authority) threshold extend_to found)
  extends_puts key threshold extend_to None f = tt
  extends_puts key threshold extend_to (Some kept) f = lengthens_puts key kept threshold extend_to f.0 (asked_life header.settings (header.seq + 1) kept.entry extend_to) refl

  makes_puts : (id code : Hash) (found : Option Kept) → IsFineAt P (instance_key id) found → Puts P (instance_key id) (makes_instance (free header authority) id code found)
  makes_puts id code None f = fair.put (instance_entry (header.seq + 1) id (new_instance code)) None tt tt
  makes_puts id code (Some kept) f = tt

  entry_local : (kind : ℕ) (a : AccessKind) (key : Datum) (effect : Frame → Durability → Option Kept → Effect Answer) (in_copy : Act Answer) → ((f : Frame) (d : Durability) → GentleUnless a (effect f d))
      → ((f : Frame) (d : Durability) → PutsFound P (data_key f.contract key d) a (effect f d)) → Local may m n P in_copy in_copy
      → Local may m n P (by_storage kind (λ d. with_frame (λ f. access (free header authority) a (data_key f.contract key d) (effect f d))) in_copy)
      (by_storage kind (λ d. with_frame (λ f. access (held may header authority) a (data_key f.contract key d) (effect f d))) in_copy)
  entry_local kind a key effect in_copy g k h =
      storage_local may m n P kind (λ d. with_frame (λ f. access (free header authority) a (data_key f.contract key d) (effect f d))) (λ d. with_frame (λ f. access (held may header authority) a (data_key f.contract key d) (effect f d))) in_copy
      (λ d. frame_local may m n P (λ f. access (free header authority) a (data_key f.contract key d) (effect f d)) (λ f. access (held may header authority) a (data_key f.contract key d) (effect f d))
      (λ f. access_local may m n P sound header authority fair a (data_key f.contract key d) (effect f d) (g f d) (k f d))) h

  pub put_local : (key val : Datum) (kind : ℕ) → Local may m n P (put_contract_data (free header authority) key val kind) (put_contract_data (held may header authority) key val kind)
  put_local key val kind = entry_local kind Write key (λ f d. puts (free header authority) (data_entry (header.seq + 1) f.contract key d val) nothing) (put_in_copy key val) (λ f d. tt) (λ f d found. fair.put (data_entry (header.seq + 1) f.contract key d val) found tt) (copy_put_local may m n P key val)

  pub has_local : (key : Datum) (kind : ℕ) → Local may m n P (has_contract_data (free header authority) key kind) (has_contract_data (held may header authority) key kind)
  has_local key kind = entry_local kind Read key (λ f d. has) (has_in_copy key) (λ f d found. tt) (λ f d. tt)
      (frame_answer_local may m n P (λ f. value (boolean (is_some (value_at key (members f.copy.storage))))))

  pub get_local : (key : Datum) (kind : ℕ) → Local may m n P (get_contract_data (free header authority) key kind) (get_contract_data (held may header authority) key kind)
  get_local key kind = entry_local kind Read key (λ f d. gets) (get_in_copy key) (λ f d. gets_still) (λ f d. tt) (copy_get_local may m n P key)

  pub del_local : (key : Datum) (kind : ℕ) → Local may m n P (del_contract_data (free header authority) key kind) (del_contract_data (held may header authority) key kind)
  del_local key kind = entry_local kind Write key (λ f d. deletes) (del_in_copy key) (λ f d. tt) (λ f d found h. deletes_puts (data_key f.contract key d) found) (copy_del_local may m n P key)

  extending_local : (key : LedgerKey) (threshold extend_to : ℕ) → Local may m n P (extending (free header authority) key threshold extend_to) (extending (held may header authority) key threshold extend_to)
  extending_local key threshold extend_to = access_local may m n P sound header authority fair Extend key (extends (free header authority) threshold extend_to) (extends_gentle (free header authority) threshold extend_to)
      (extends_puts key threshold extend_to)

  pub extend_local : (key : Datum) (kind threshold extend_to : ℕ) → Local may m n P (extend_contract_data_ttl (free header authority) key kind threshold extend_to) (extend_contract_data_ttl (held may header authority) key kind threshold extend_to)
  extend_local key kind threshold extend_to =
      storage_local may m n P kind
      (λ d. unless_backward threshold extend_to (with_frame (λ f. extending (free header authority) (data_key f.contract key d) threshold extend_to)))
      (λ d. unless_backward threshold extend_to (with_frame (λ f. extending (held may header authority) (data_key f.contract key d) threshold extend_to)))
      (fails INVALID_EXTENSION)
      (λ d. unless_backward_local may m n P threshold extend_to (with_frame (λ f. extending (free header authority) (data_key f.contract key d) threshold extend_to)) (with_frame (λ f. extending (held may header authority) (data_key f.contract key d) threshold extend_to))
      (frame_local may m n P (λ f. extending (free header authority) (data_key f.contract key d) threshold extend_to) (λ f. extending (held may header authority) (data_key f.contract key d) threshold extend_to)
      (λ f. extending_local (data_key f.contract key d) threshold extend_to)))
      (fails_local may m n P INVALID_EXTENSION)

  pub extend_both_local : (threshold extend_to : ℕ) → Local may m n P (extend_current_contract_instance_and_code_ttl (free header authority) threshold extend_to) (extend_current_contract_instance_and_code_ttl (held may header authority) threshold extend_to)
  extend_both_local threshold extend_to =
      unless_backward_local may m n P threshold extend_to _ _ (frame_local may m n P _ _ (λ f. after_local may m n P _ _ _ _ (extending_local _ threshold extend_to) (λ _. extending_local _ threshold extend_to)))

  code_at_local : (hash : Hash) → Local may m n P (code_at (free header authority) hash) (code_at (held may header authority) hash)
  code_at_local hash = access_local may m n P sound header authority fair Read (code_key hash) finds_code code_still tt

  puts_code_local : (b : Bool) (hash : Hash) (code : List ℕ) → hash.0 ≡ sha256 code → Local may m n P (puts_code b (free header authority) hash code) (puts_code b (held may header authority) hash code)
  puts_code_local true hash code h = good_local may m n P hash
  puts_code_local false hash code h = access_local may m n P sound header authority fair Write (code_key hash) (puts (free header authority) (code_entry (header.seq + 1) hash code) hash) tt (λ found. fair.put (code_entry (header.seq + 1) hash code) found h)

  pub uploads_local : (code : List ℕ) → Local may m n P (uploads (free header authority) code) (uploads (held may header authority) code)
  uploads_local code =
      paying_local may m n P _ _ _ _ (paying_local may m n P _ _ _ _ (where_local may m n P _ _ _ _
      (after_local may m n P _ _ _ _ (access_local may m n P sound header authority fair Read (code_key (hash_of (sha256 code))) is_there (λ found. tt) tt) (λ b. puts_code_local b (hash_of (sha256 code)) code refl))))

  pub upload_local : (code : List ℕ) → Local may m n P (upload_wasm (free header authority) code) (upload_wasm (held may header authority) code)
  upload_local code = returning_local may m n P _ _ _ (uploads_local code)

  pub update_local : (code : List ℕ) → Local may m n P (update_current_contract_wasm (free header authority) code) (update_current_contract_wasm (held may header authority) code)
  update_local code = hash_local may m n P code _ _ (λ h. after_local may m n P _ _ _ _ (code_at_local h) (λ _. frame_local may m n P _ _ (λ f.
      after_local may m n P _ _ (λ _. sets (with_code h) nothing) (λ _. sets (with_code h) nothing) (emits_local may m n P (update_event f.contract f.copy.code h)) (λ _. sets_local may m n P (with_code h) nothing (code_besides h) (λ q w. same w.meter)))))

  pub id_local : (deployer : ScAddress) (salt : List ℕ) → Local may m n P (get_contract_id (free header authority) deployer salt) (get_contract_id (held may header authority) deployer salt)
  id_local deployer salt = hash_local may m n P salt _ _ (λ h.
      let preimage : Preimage = FromAddress deployer h in
      let id : Hash = contract_id_of header.network_id preimage in
      paying_local may m n P ComputeSha256Hash (length (contract_id_payload header.network_id preimage)) _ _
      (returning_local may m n P (gives id) (gives id) (λ x. address_of (addresses.Contract x)) (good_local may m n P id)))

  nonce_puts : (signer : AddressCredentials) → is_valid_until (header.seq + 1) header.settings.max_entry_ttl signer.signature_expiration_ledger ≡ true
      → PutsFound P (nonce_key signer.address signer.nonce) Write (uses (header.seq + 1) signer)
  nonce_puts signer valid None f = fair.nonce signer valid
  nonce_puts signer valid (Some kept) f = tt

  enters_local : (f g : Entered → Act Datum) → ((e : Entered) → Local may m n P (f e) (g e)) → (c : Call) (contract : Hash) (copy : Copied) (path code : List ℕ) → Local may m n P (enters f c contract copy path code) (enters g c contract copy path code)
  enters_local f g l c contract copy path code =
      paying_local may m n P _ _ _ _ (module_local may m n P (module_of code) _ _ (λ x. start_local may m n P (start_of x c.function (length c.args)) _ _ (λ i s. l _)))

  looks_up_local : (f g : Entered → Act Datum) → ((e : Entered) → Local may m n P (f e) (g e)) → (c : Call) (contract : Hash) (path : List ℕ) → Local may m n P (looks_up (free header authority) f c contract path) (looks_up (held may header authority) g c contract path)
  looks_up_local f g l c contract path =
      after_local may m n P _ _ _ _ (access_local may m n P sound header authority fair Read (instance_key contract) finds_instance instance_still tt) (λ copy.
      after_local may m n P _ _ _ _ (code_at_local copy.code) (enters_local f g l c contract copy path))

  admits_local : (f g : Entered → Act Datum) → ((e : Entered) → Local may m n P (f e) (g e)) → (named : Bool) (c : Call) (path : List ℕ) (contract : Hash)
      → Local may m n P (admits named (free header authority) f c path contract) (admits named (held may header authority) g c path contract)
  admits_local f g l named c path contract =
      where_local may m n P named RESERVED_NAME _ _ (with_local may m n P (is_running contract) (λ running. only_where (not running) REENTERED (looks_up (free header authority) f c contract path)) (λ running. only_where (not running) REENTERED (looks_up (held may header authority) g c contract path)) (λ w q. refl)
      (λ running. where_local may m n P (not running) REENTERED _ _ (looks_up_local f g l c contract path)))

  constructs_local : (f g : Entered → Act Datum) → ((e : Entered) → Local may m n P (f e) (g e)) → (creator : Option ScAddress) (id code : Hash) (args : List Datum) (path : List ℕ) (x : Module)
      → Local may m n P (constructs f creator id code args path x) (constructs g creator id code args path x)
  constructs_local f g l creator id code args path x =
      start_local may m n P (start_of x _ (length args)) _ _ (λ i s. after_local may m n P _ _ _ _ (l _) (λ d. where_local may m n P _ _ _ _ (good_local may m n P tt)))

  module _ (opener opener' : Opener) (opens : OpenersLocal may m n P opener opener') where
    calls_if_local : (named : Bool) (c : Call) → Local may m n P (calls_if named (free header authority) opener c) (calls_if named (held may header authority) opener' c)
    calls_if_local named c = begins_local may m n P _ _ (λ path. opener_local may m n P opener opener' opens _ _ (λ f g l.
        contract_local may m n P c.address _ _ (admits_local f g l named c path)))

    pub calls_local : (c : Call) → Local may m n P (calls (free header authority) opener c) (calls (held may header authority) opener' c)
    calls_local c = calls_if_local _ c

    -- ---- demands

    valid_local : (signer : AddressCredentials) (b : Bool) → is_valid_until (header.seq + 1) header.settings.max_entry_ttl signer.signature_expiration_ledger ≡ b
        → Local may m n P (only_where b EXPIRED (access (free header authority) Write (nonce_key signer.address signer.nonce) (uses (header.seq + 1) signer)))
        (only_where b EXPIRED (access (held may header authority) Write (nonce_key signer.address signer.nonce) (uses (header.seq + 1) signer)))
    valid_local signer true e = access_local may m n P sound header authority fair Write (nonce_key signer.address signer.nonce) (uses (header.seq + 1) signer) tt (nonce_puts signer e)
    valid_local signer false e = fails_local may m n P EXPIRED

    checks_local : (contract : Hash) (args : List Datum) → Local may m n P (checks (free header authority) opener contract args) (checks (held may header authority) opener' contract args)
    checks_local contract args =
        entering_local may m n P args _ _ (after_local may m n P _ _ _ _ (calls_if_local true (check_of contract args)) (λ d. where_local may m n P (is_void d) DENIED _ _ (good_local may m n P tt)))

    asks_local : (payload : Hash) (signer : AddressCredentials) (root : Invocation) (address : ScAddress)
        → Local may m n P (asks (free header authority) opener payload signer root address) (asks (held may header authority) opener' payload signer root address)
    asks_local payload signer root (addresses.Account account) = where_local may m n P _ _ _ _ (good_local may m n P tt)
    asks_local payload signer root (addresses.Contract contract) = denying_local may m n P _ _ (checks_local contract (check_args payload signer root))
    asks_local payload signer root _ = fails_local may m n P _

    proves_local : (root : Invocation) (credentials : Credentials)
        → Local may m n P (proves (free header authority) opener root credentials) (proves (held may header authority) opener' root credentials)
    proves_local root SourceAccount = good_local may m n P tt
    proves_local root (Address signer) =
        after_local may m n P _ _ _ _ (valid_local signer (is_valid_until (header.seq + 1) header.settings.max_entry_ttl signer.signature_expiration_ledger) refl)
        (λ _. paying_local may m n P _ _ _ _ (asks_local _ signer root signer.address))

    proves_entry_local : (o : Option AuthEntry) → Local may m n P (proves_entry (free header authority) opener o) (proves_entry (held may header authority) opener' o)
    proves_entry_local None = fails_local may m n P DENIED
    proves_entry_local (Some entry) = proves_local entry.root_invocation entry.credentials

    proves_root_local : (entry : ℕ) (node : List ℕ) → Local may m n P (proves_root (free header authority) opener entry node) (proves_root (held may header authority) opener' entry node)
    proves_root_local entry [] = proves_entry_local _
    proves_root_local entry (i ∷ more) = good_local may m n P tt

    owes_local : (c : Choice) → Local may m n P (owes (free header authority) opener c) (owes (held may header authority) opener' c)
    owes_local ByCaller = good_local may m n P tt
    owes_local (ByNode entry node) = proves_root_local entry node
    owes_local ByNothing = fails_local may m n P _
    owes_local (ByNote tree place) = good_local may m n P tt

    met_local : (path : List ℕ) (address : ScAddress) (function : Function) (c : Choice)
        → Local may m n P (met (free header authority) opener path address function c) (met (held may header authority) opener' path address function c)
    met_local path address function c =
        after_local may m n P (keeps path address function c) (keeps path address function c) (λ _. owes (free header authority) opener c) (λ _. owes (held may header authority) opener' c)
        (sets_local may m n P (with_choice path address function c) tt (choice_besides path address function c) (λ q w. same w.meter)) (λ _. owes_local c)

    demanded_local : (path : List ℕ) (caller : Option ScAddress) (address : ScAddress) (function : Function)
        → Local may m n P (demanded (free header authority) opener path caller address function) (demanded (held may header authority) opener' path caller address function)
    demanded_local path caller address function =
        with_local may m n P (λ w. choice_by w.noted (record { entries = authority.entries; source = authority.source; pairs = w.pairs }) path caller address function)
        (met (free header authority) opener path address function) (met (held may header authority) opener' path address function) (λ w q. refl) (met_local path address function)

    requires_local : (address : ScAddress) (args : List Datum) (f : Frame) → Local may m n P (requires (free header authority) opener address args f) (requires (held may header authority) opener' address args f)
    requires_local address args f = after_local may m n P _ _ _ _ (demanded_local f.path f.caller address (invocation f args)) (λ _. good_local may m n P nothing)

    pub auth_local : (address : ScAddress) → Local may m n P (require_auth (free header authority) opener address) (require_auth (held may header authority) opener' address)
    auth_local address = frame_local may m n P _ _ (λ f. requires_local address f.args f)

    pub auth_for_args_local : (address : ScAddress) (args : List Datum)
        → Local may m n P (require_auth_for_args (free header authority) opener address args) (require_auth_for_args (held may header authority) opener' address args)
    auth_for_args_local address args = frame_local may m n P _ _ (λ f. requires_local address args f)

    -- ---- calls and creates

    call_by_local : (make make' : Call → Act Datum) → ((c : Call) → Local may m n P (make c) (make' c)) → (address : ScAddress) (function : List ℕ) (args : List Datum) → Local may m n P (call_by make address function args) (call_by make' address function args)
    call_by_local make make' l address function args = frame_local may m n P _ _ (λ f. l _)

    pub call_local : (address : ScAddress) (function : List ℕ) (args : List Datum) → Local may m n P (call (free header authority) opener address function args) (call (held may header authority) opener' address function args)
    call_local address function args = returning_local may m n P _ _ _ (call_by_local _ _ calls_local address function args)

    pub try_call_local : (address : ScAddress) (function : List ℕ) (args : List Datum) → Local may m n P (try_call (free header authority) opener address function args) (try_call (held may header authority) opener' address function args)
    try_call_local address function args = returning_local may m n P _ _ _ (call_by_local _ _ (λ c. catching_local may m n P _ _ (calls_local c)) address function args)

    constructs_if_local : (o : Option ℕ) (creator : Option ScAddress) (id code : Hash) (args : List Datum) (path : List ℕ) (x : Module)
        → Local may m n P (constructs_if o opener creator id code args path x) (constructs_if o opener' creator id code args path x)
    constructs_if_local None creator id code args path x = where_local may m n P _ _ _ _ (good_local may m n P tt)
    constructs_if_local (Some i) creator id code args path x = opener_local may m n P opener opener' opens _ _ (λ f g l. constructs_local f g l creator id code args path x)

    builds_local : (creator : Option ScAddress) (c : Creation) (id : Hash) (path code : List ℕ) → Local may m n P (builds opener creator c id path code) (builds opener' creator c id path code)
    builds_local creator c id path code = paying_local may m n P _ _ _ _ (module_local may m n P (module_of code) _ _ (λ x. constructs_if_local (function_named CONSTRUCTOR x.exports) creator id c.code (unwrap_or c.args []) path x))

    makes_local : (creator : Option ScAddress) (c : Creation) (path code : List ℕ) → Local may m n P (makes (free header authority) opener creator c path code) (makes (held may header authority) opener' creator c path code)
    makes_local creator c path code =
        let id : Hash = id_of (free header authority) c in
        after_local may m n P (access (free header authority) Write (instance_key id) (makes_instance (free header authority) id c.code)) (access (held may header authority) Write (instance_key id) (makes_instance (held may header authority) id c.code))
        (λ _. after (builds opener creator c id path code) (λ _. gives id)) (λ _. after (builds opener' creator c id path code) (λ _. gives id))
        (access_local may m n P sound header authority fair Write (instance_key id) (makes_instance (free header authority) id c.code) tt (makes_puts id c.code))
        (λ _. after_local may m n P (builds opener creator c id path code) (builds opener' creator c id path code) (λ _. gives id) (λ _. gives id) (builds_local creator c id path code) (λ _. good_local may m n P id))

    creates_at_local : (creator : Option ScAddress) (c : Creation) (path : List ℕ) → Local may m n P (creates_at (free header authority) opener creator c path) (creates_at (held may header authority) opener' creator c path)
    creates_at_local creator c path =
        let ask : Act (Unit {0}) = demanded (free header authority) opener path creator c.deployer (function_of c) in
        let ask' : Act (Unit {0}) = demanded (held may header authority) opener' path creator c.deployer (function_of c) in
        let next : Act Hash = after (code_at (free header authority) c.code) (makes (free header authority) opener creator c path) in
        let next' : Act Hash = after (code_at (held may header authority) c.code) (makes (held may header authority) opener' creator c path) in
        paying_local may m n P ComputeSha256Hash (length (contract_id_payload header.network_id (preimage_of c))) (after ask (λ _. next)) (after ask' (λ _. next'))
        (after_local may m n P ask ask' (λ _. next) (λ _. next') (demanded_local path creator c.deployer (function_of c))
        (λ _. after_local may m n P (code_at (free header authority) c.code) (code_at (held may header authority) c.code) (makes (free header authority) opener creator c path) (makes (held may header authority) opener' creator c path) (code_at_local c.code) (makes_local creator c path)))

    pub creates_local : (creator : Option ScAddress) (c : Creation) → Local may m n P (creates (free header authority) opener creator c) (creates (held may header authority) opener' creator c)
    creates_local creator c = begins_local may m n P (creates_at (free header authority) opener creator c) (creates_at (held may header authority) opener' creator c) (creates_at_local creator c)

    pub creates_by_local : (deployer : ScAddress) (code salt : List ℕ) (args : Option (List Datum)) → Local may m n P (creates_by (free header authority) opener deployer code salt args) (creates_by (held may header authority) opener' deployer code salt args)
    creates_by_local deployer code salt args = hash_local may m n P code _ _ (λ c. hash_local may m n P salt _ _ (λ s.
        let create : Frame → Act Hash = λ f. creates (free header authority) opener (Some (addresses.Contract f.contract)) (record { deployer = deployer; code = c; salt = s; args = args }) in
        let create' : Frame → Act Hash = λ f. creates (held may header authority) opener' (Some (addresses.Contract f.contract)) (record { deployer = deployer; code = c; salt = s; args = args }) in
        frame_local may m n P (λ f. returning (create f) (λ id. address_of (addresses.Contract id))) (λ f. returning (create' f) (λ id. address_of (addresses.Contract id)))
        (λ f. returning_local may m n P (create f) (create' f) (λ id. address_of (addresses.Contract id)) (creates_local (Some (addresses.Contract f.contract)) (record { deployer = deployer; code = c; salt = s; args = args })))))
