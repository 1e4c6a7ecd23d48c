-- Demands of authorisation: the node that is used, and what its entry owes.
use Rattle.std.proofs.Common.{◌≡◌, ℕ, List, [], ◌∷◌, Bool, true, false, Option, Some, None, slice_get, Result, Ok, Err, refl, sym, ap, ◌∙◌, subst}
use Rattle.std.specs.Option.{option_map}
use Rattle.value_types.specs.Datum.{Datum, void}
use Rattle.value_types.specs.Views.{datum}
use Rattle.value_types.specs.declared.hash.Hash.{Hash}
use Rattle.value_types.specs.declared.value.ScVal.{ScVal}
use Rattle.value_types.specs.declared.address.ScAddress.{ScAddress}
use Rattle.value_types.specs.declared.address.ScAddress.TheVariants.{Contract}
use Rattle.invoke_types.specs.declared.function.Function.{Function}
use Rattle.invoke_types.specs.declared.function.Function.TheVariants.{ContractFn, CreateContract, CreateContractV2}
use Rattle.auth_types.specs.declared.auth_entry.AuthEntry.{AuthEntry}
use Rattle.auth_spec.specs.declared.demand.Demand.{Demand}
use Rattle.auth_spec.specs.declared.demand.Demand.TheVariants as demands
use Rattle.auth_spec.specs.Demands.{Marked, Choice, ByNode, ByCaller, ByNothing, ByNote, answer}
use Rattle.auth_spec.specs.Authorities.{Authorised, choice_by, chooses, after_choice, IsDemanded}
use Rattle.host_spec.specs.declared.error.HostErr.{HostErr}
use Rattle.host_spec.specs.declared.error.HostErr.TheVariants as ends
use Rattle.host_frame.specs.Answered.{answer_of}
use Rattle.host_frame.specs.declared.answer.Answer.{Answer as Answer'}
use Rattle.host_ledger.proofs.Lemmas.{all_same}
use Rattle.call_spec.specs.Errors.{DENIED}
use Rattle.call_spec.specs.World.{Access, World, Authority, Env}
use Rattle.call_spec.specs.Acts.{Failed, Spent, Archived, Out, Good, Bad, Undeclared, Act, world_of, after, gives, only_where}
use Rattle.call_spec.specs.Asking.{denied, denying}
use Rattle.call_spec.specs.Demands.{with_choice, met, demanded, proves_entry, require_auth, require_auth_for_args}
use Rattle.call_spec.specs.Creating.{Creation, function_of}
use Rattle.call_spec.specs.Frames.{Opener, is_void}
use Rattle.call_spec.specs.HostFunctions.{opener_of}
use Rattle.call_spec.specs.Outcomes.{Leaves, Says, trace_of, stopped_kind}
use Rattle.host_ledger.specs.Traced.{leaving}
use Rattle.auth_parts.specs.Asked.{Asked, proved, asks_first, asks_then}
use Rattle.auth_parts.specs.Views.{asked}
use Rattle.auth_parts.specs.declared.asking.Asked.{Asked as Asked'}
use Rattle.host_ledger.specs.Worlds.{address_of, called_name, called_args, IsCallOf, IsEnv}
use Rattle.host_ledger.specs.declared.state.HostLedger.{HostLedger}
use Rattle.contract_call.proofs.Constructing.{does_around}
use Rattle.call_host.proofs.Lemmas.{around}
use Rattle.auth_parts.proofs.Lemmas.{entry_asked}
use Rattle.contract_call.specs.Demanded.{called, requires_here, settled, asks_at, granted, denied_end, if_good, checked}
use Rattle.contract_call.specs.Made.{granting, IsValued}
use Rattle.call_host.specs.Worlds.{leaving_by, world_around, IsEnvOf, DoesAround, DoesIn, Stays}
use Rattle.call_host.specs.Demanded.{IsMet}
use Rattle.call_host.specs.declared.host.Host.{Host}
use Rattle.contract_call.proofs.Calling.{around_on, around_stop, around_same, stays_then}
use Rattle.contract_call.proofs.Rowing.{in_around, valued_does}

-- ---- the node that is used

-- what a demand does is to keep the choice and to settle
met_settled : (env : Env) (opener : Opener) (path : List ℕ) (address : ScAddress) (function : Function) (c : Choice) (w : World)
    → met env opener path address function c w ≡ settled env opener (answer c) (with_choice path address function c w)
met_settled env opener path address function (ByNode entry []) w = refl
met_settled env opener path address function (ByNode entry (i ∷ more)) w = refl
met_settled env opener path address function ByCaller w = refl
met_settled env opener path address function ByNothing w = refl
met_settled env opener path address function (ByNote tree place) w = refl

chosen_does : {G U V : Type 0} (room : ℕ) (path : List ℕ) (caller : Option ScAddress) (address : ScAddress) (function : Function) (answered : Demand) (r : Result (Unit {0}) HostErr) (old : Host G U V) (marks : Authorised) (new : Host G U V)
    → (let c = chooses old.marks path caller address function in answered ≡ answer c → marks ≡ after_choice old.marks path address function c
    → DoesAround r (λ u. u) (λ env. settled env (opener_of env room) answered) (record old { marks = marks }) new
    → DoesAround r (λ u. u) (λ env. demanded env (opener_of env room) path caller address function) old new)
chosen_does {G} {U} room path caller address function answered r old marks new answer_is marks_is does env is rest trace =
    let c = chooses old.marks path caller address function in
    let settle : DoesAround r (λ u. u) (λ env. settled env (opener_of env room) (answer c)) (record old { marks = after_choice old.marks path address function c }) new =
    subst (λ (m : Authorised). DoesAround r (λ u. u) (λ env. settled env (opener_of env room) (answer c)) (record old { marks = m }) new) marks_is
    (subst (λ d. DoesAround r (λ u. u) (λ env. settled env (opener_of env room) d) (record old { marks = marks }) new) answer_is does) in
    let w = world_around rest old trace in
    let asks = λ (s : Marked). met env (opener_of env room) path address function (choice_by old.marks.noted s path caller address function) w in
    let same : demanded env (opener_of env room) path caller address function w ≡ settled env (opener_of env room) (answer c) (with_choice path address function c w) =
    ap (λ a. asks (record { entries = a.entries; source = a.source; pairs = old.marks.pairs })) is.authority ∙ met_settled env (opener_of env room) path address function c w in
    subst (λ (o : Out (Unit {0})). Says r (λ u. u) o (leaving_by old new trace (world_around rest new))) (sym same)
    (settle env (record { ledger = record { header = is.ledger.header; serves = is.ledger.serves }; authority = is.authority }) rest trace)

pub demanded_does : {G U V : Type 0} (room : ℕ) (path : List ℕ) (caller : Option ScAddress) (address : ScAddress) (function : Function) (answered : Demand) (r : Result (Unit {0}) HostErr) (old : Host G U V) (marks : Authorised) (new : Host G U V)
    → IsDemanded path caller address function answered old.marks marks → (answered ≡ demands.NoMemory → r ≡ Err ends.NoMemory)
    → DoesAround r (λ u. u) (λ env. settled env (opener_of env room) answered) (record old { marks = marks }) new
    → DoesAround r (λ u. u) (λ env. demanded env (opener_of env room) path caller address function) old new
demanded_does {G} {U} room path caller address function answered r old marks new =
    let goal : Demand → Type 0 = λ d. IsDemanded path caller address function d old.marks marks → (d ≡ demands.NoMemory → r ≡ Err ends.NoMemory)
    → DoesAround r (λ u. u) (λ env. settled env (opener_of env room) d) (record old { marks = marks }) new
    → DoesAround r (λ u. u) (λ env. demanded env (opener_of env room) path caller address function) old new in
    let chosen : (d : Demand) → (let c = chooses old.marks path caller address function in (d ≡ answer c) × (marks ≡ after_choice old.marks path address function c)
    → DoesAround r (λ u. u) (λ env. settled env (opener_of env room) d) (record old { marks = marks }) new
    → DoesAround r (λ u. u) (λ env. demanded env (opener_of env room) path caller address function) old new) =
    λ d h does. chosen_does room path caller address function d r old marks new h.0 h.1 does in
    let go : (d : Demand) → goal d =
    λ d. elim d as goal [
      | demands.Matched index first ↦ λ h _ does. chosen (demands.Matched index first) h does
      | demands.ByInvoker ↦ λ h _ does. chosen demands.ByInvoker h does
      | demands.Denied ↦ λ h _ does. chosen demands.Denied h does
      | demands.Noted ↦ λ h _ does. chosen demands.Noted h does
      | demands.NoMemory ↦ λ _ memory _. subst (λ (x : Result (Unit {0}) HostErr). DoesAround x (λ u. u) (λ env. demanded env (opener_of env room) path caller address function) old new) (sym (memory refl))
          (λ env is rest trace. tt)
    ] in
    go answered

-- a demand that was met, and what it owes
pub met_does : {G U V : Type 0} (room : ℕ) (path : List ℕ) (caller : Option Hash) (address : ScAddress) (function : Function) (answered : Demand) (r : Result (Unit {0}) HostErr) (old mid new : Host G U V)
    → IsMet path caller address function answered old mid → (answered ≡ demands.NoMemory → r ≡ Err ends.NoMemory) → DoesAround r (λ u. u) (λ env. settled env (opener_of env room) answered) mid new
    → DoesAround r (λ u. u) (λ env. demanded env (opener_of env room) path (option_map address_of caller) address function) old new
met_does {G} {U} {V} room path caller address function answered r old mid new met memory does =
    demanded_does room path (option_map address_of caller) address function answered r old mid.marks new met.demanded memory
    (subst (λ (h : Host G U V). DoesAround r (λ u. u) (λ env. settled env (opener_of env room) answered) h new) met.rest does)

-- ---- the entry

proves_at : (env : Env) (opener : Opener) (o : Option AuthEntry) (w : World) → proves_entry env opener o w ≡ after (asks_at env o) (asks_then env opener) w
proves_at env opener None w = refl
proves_at env opener (Some entry) w = entry_asked env opener entry w

module _ (room entry : ℕ) where
  abbrev proves_all : Env → Act (Unit {0})
  proves_all env = proves_entry env (opener_of env room) (slice_get env.authority.entries entry)

  abbrev asks_all : Env → Act Asked
  asks_all env = asks_at env (slice_get env.authority.entries entry)

  pub proves_does : {A G U V : Type 0} (a : A) (view : A → Asked) (r : Result (Unit {0}) HostErr) (old mid new : Host G U V) → ((env : Env) → IsEnvOf env old → IsEnvOf env mid)
      → (let given : Result A HostErr = Ok a in DoesAround given view asks_all old mid) → DoesAround r (λ u. u) (λ env. asks_then env (opener_of env room) (view a)) mid new → DoesAround r (λ u. u) proves_all old new
  proves_does a view r old mid new later one two =
      around_same r (λ u. u) proves_all (λ env. after (asks_all env) (asks_then env (opener_of env room))) old new (λ env w. proves_at env (opener_of env room) (slice_get env.authority.entries entry) w)
      (around_on a r view (λ u. u) asks_all (λ env. asks_then env (opener_of env room)) old mid new later one two)

  pub proves_not : {A G U V : Type 0} (e : HostErr) (view : A → Asked) (old new : Host G U V) → (let none : Result A HostErr = Err e in DoesAround none view asks_all old new)
      → (let none : Result (Unit {0}) HostErr = Err e in DoesAround none (λ u. u) proves_all old new)
  proves_not e view old new one =
      let none : Result (Unit {0}) HostErr = Err e in
      around_same none (λ u. u) proves_all (λ env. after (asks_all env) (asks_then env (opener_of env room))) old new (λ env w. proves_at env (opener_of env room) (slice_get env.authority.entries entry) w)
      (around_stop e view (λ u. u) asks_all (λ env. asks_then env (opener_of env room)) old new one)

-- the entry at an index, as the program asks its address
pub asks_does : {G U V : Type 0} (r : Result Asked' HostErr) (index : ℕ) (entry : AuthEntry) (old : Host G U V) (new : HostLedger G V) → new ≡ record old.ledger { storage = new.storage; budget = new.budget }
    → slice_get old.marks.entries index ≡ Some entry
    → ((env : Env) → IsEnv env old.ledger → env.authority.verdicts ≡ old.verdicts.now → (w : World) → w.entries ≡ old.ledger.storage.map → w.meter ≡ old.ledger.budget
    → Says r asked (asks_first env entry w) (leaving old.ledger.storage new.storage w.trace (λ trace. record w { entries = new.storage.map; trace = trace; meter = new.budget })))
    → DoesAround r asked (λ env. asks_at env (slice_get env.authority.entries index)) old (around old new)
asks_does r index entry old new kept found does =
    does_around r asked (λ env. asks_at env (slice_get env.authority.entries index)) old new kept
    (λ env is w i j. subst (λ o. Says r asked (asks_at env o w) (leaving old.ledger.storage new.storage w.trace (λ trace. record w { entries = new.storage.map; trace = trace; meter = new.budget }))) (sym (ap (λ (a : Authority). slice_get a.entries index) is.authority ∙ found))
    (does env is.ledger (ap (λ (a : Authority). a.verdicts) is.authority) w i j))

pub nothing_left : {G U V : Type 0} (room : ℕ) (h : Host G U V) → (let r : Result (Unit {0}) HostErr = Ok tt in DoesAround r (λ u. u) (λ env. asks_then env (opener_of env room) proved) h h)
nothing_left room h env is rest trace = ((λ told. told), refl)

-- ---- the contract's own function

abbrev deny : {A : Type 0} → Result A HostErr → Result A HostErr
deny (Ok a) = Ok a
deny (Err e) = Err (denied_end e)

denied_says : {A B : Type 0} (r : Result A HostErr) (view : A → B) (out : Out B) (left : Leaves) → ((t : List Access) → (left.world t).trace ≡ t) → Says r view out left → Says (deny r) view (denied out) left
denied_says (Ok a) view out left tr p =
    let e : denied out ≡ Good (view a) (left.world (trace_of out)) = ap denied p.1 in
    let same : trace_of (denied out) ≡ trace_of out = ap trace_of e ∙ tr (trace_of out) in
    (subst left.told (sym same) p.0, e ∙ ap (λ t. Good (view a) (left.world t)) (sym same))
denied_says (Err (ends.Failed d)) view out left tr p =
    let e : denied out ≡ Bad (Failed DENIED) (left.world (trace_of out)) = ap denied p.1 in
    let same : trace_of (denied out) ≡ trace_of out = ap trace_of e ∙ tr (trace_of out) in
    (subst left.told (sym same) p.0, e ∙ ap (λ t. Bad (Failed DENIED) (left.world t)) (sym same))
denied_says (Err ends.Spent) view out left tr p =
    let e : denied out ≡ Bad Spent (world_of out) = ap denied p.1 in (subst left.told (sym (ap trace_of e)) p.0, e ∙ ap (Bad Spent) (sym (ap world_of e)), ap (λ o. (world_of o).meter) e ∙ p.2, ap (λ o. (world_of o).noted) e ∙ p.3)
denied_says (Err (ends.Archived key)) view out left tr p =
    let e : denied out ≡ Bad (Archived key) (world_of out) = ap denied p.1 in
    (subst left.told (sym (ap trace_of e)) p.0, e ∙ ap (Bad (Archived key)) (sym (ap world_of e)), ap (λ o. (world_of o).meter) e ∙ p.2, ap (λ o. (world_of o).noted) e ∙ p.3)
denied_says {B = B} (Err (ends.Undeclared key)) view out left tr p =
    let at : _ → World → Out B = λ kind w. Undeclared (record { kind = kind; key = key; used = (left.world []).meter.used }) w in
    let e : denied out ≡ at (stopped_kind out) (world_of out) = ap denied p.1 in (
      subst left.told (sym (ap trace_of e)) p.0,
      e ∙ ap (λ k. at k (world_of out)) (sym (ap stopped_kind e)) ∙ ap (at (stopped_kind (denied out))) (sym (ap world_of e)),
      ap (λ o. (world_of o).meter) e ∙ p.2,
    )
denied_says (Err ends.NoMemory) view out left tr p = tt

-- Void is good
abbrev judged : Result ScVal HostErr → Result (Unit {0}) HostErr
judged (Ok v) = if_good (is_void (datum v))
judged (Err e) = Err e

good_says : {G U V : Type 0} (good : Bool) (rest : World) (h : Host G U V) (trace : List Access)
    → Says (if_good good) (λ u. u) (only_where good DENIED (gives tt) (world_around rest h trace)) (leaving_by h h trace (world_around rest h))
good_says true rest h trace = ((λ told. told), refl)
good_says false rest h trace = ((λ told. told), refl)

good_is : (good : Bool) → if_good good ≡ deny (if_good good)
good_is true = refl
good_is false = refl

judged_does : {G U V : Type 0} (returned : Result ScVal HostErr) (act : Env → Act Datum) (old new : Host G U V) → ((env : Env) → IsEnvOf env old → IsEnvOf env new) → DoesAround returned datum act old new
    → DoesAround (judged returned) (λ u. u) (λ env. after (act env) (λ d. only_where (is_void d) DENIED (gives tt))) old new
judged_does (Ok v) act old new later does =
    around_on v (if_good (is_void (datum v))) datum (λ u. u) act (λ env d. only_where (is_void d) DENIED (gives tt)) old new new later does
    (λ env is rest trace. good_says (is_void (datum v)) rest new trace)
judged_does (Err e) act old new later does = around_stop e datum (λ u. u) act (λ env d. only_where (is_void d) DENIED (gives tt)) old new does

checked_is : (returned : Result ScVal HostErr) → checked returned ≡ deny (judged returned)
checked_is (Ok v) = good_is (is_void (datum v))
checked_is (Err e) = refl

pub checks_does : {G U V : Type 0} (returned : Result ScVal HostErr) (r : Result (Unit {0}) HostErr) (act : Env → Act Datum) (old new : Host G U V) → ((env : Env) → IsEnvOf env old → IsEnvOf env new) → r ≡ checked returned
    → DoesAround returned datum act old new → DoesAround r (λ u. u) (λ env. denying (after (act env) (λ d. only_where (is_void d) DENIED (gives tt)))) old new
checks_does returned r act old new later is does =
    subst (λ x. DoesAround x (λ u. u) (λ env. denying (after (act env) (λ d. only_where (is_void d) DENIED (gives tt)))) old new) (sym (is ∙ checked_is returned))
    (λ env env_is rest trace. denied_says (judged returned) (λ u. u) (after (act env) (λ d. only_where (is_void d) DENIED (gives tt)) (world_around rest old trace)) (leaving_by old new trace (world_around rest new)) (λ _. refl)
    (judged_does returned act old new later does env env_is rest trace))

-- ---- the end of a demand

pub grants_does : {G U V : Type 0} (room : ℕ) (creator : Option ScAddress) (c : Creation) (path : List ℕ) (id : Hash) (met : Result (Unit {0}) HostErr) (r : Result Hash HostErr) (old new : Host G U V) → ((env : Env) → IsEnvOf env old → IsEnvOf env new)
    → r ≡ granted met id → DoesAround met (λ u. u) (λ env. demanded env (opener_of env room) path creator c.deployer (function_of c)) old new
    → DoesAround r (λ x. x) (λ env. granting env (opener_of env room) creator c path id) old new
grants_does room creator c path id (Ok u) r old new later is does =
    subst (λ x. DoesAround x (λ x. x) (λ env. granting env (opener_of env room) creator c path id) old new) (sym is)
    (around_on u (Ok id) (λ u. u) (λ x. x) (λ env. demanded env (opener_of env room) path creator c.deployer (function_of c)) (λ env _. gives id) old new new later does (λ env is rest trace. ((λ told. told), refl)))
grants_does room creator c path id (Err e) r old new later is does =
    subst (λ x. DoesAround x (λ x. x) (λ env. granting env (opener_of env room) creator c path id) old new) (sym is)
    (around_stop e (λ u. u) (λ x. x) (λ env. demanded env (opener_of env room) path creator c.deployer (function_of c)) (λ env _. gives id) old new does)

-- the function of the running frame, as an authorisation names it
own_call : (contract : Hash) (function : Function) → IsCallOf contract function → function ≡ called contract (called_name function) (called_args function)
own_call contract (ContractFn call) is =
    let at : ScAddress → List ScVal → Function = λ address args. ContractFn (record { contract = address; function = call.function; args = args }) in
    ap (λ address. at address call.args) is ∙ ap (at (Contract contract)) (sym (all_same call.args))
own_call contract (CreateContract args) is = absurd is
own_call contract (CreateContractV2 args) is = absurd is

pub own_does : {G U V : Type 0} (room : ℕ) (address : ScAddress) (r : Result Answer' HostErr) (old new : Host G U V) → IsCallOf old.ledger.frame.contract old.ledger.frame.function
    → DoesIn r answer_of (λ env. requires_here env (opener_of env room) address old.ledger.frame.function) old new → DoesIn r answer_of (λ env. require_auth env (opener_of env room) address) old new
own_does room address r old new is does =
    subst (λ f. DoesIn r answer_of (λ env. requires_here env (opener_of env room) address f) old new) (own_call old.ledger.frame.contract old.ledger.frame.function is) does

pub given_does : {G U V : Type 0} (room : ℕ) (address : ScAddress) (args : List Datum) (function : Function) (r : Result Answer' HostErr) (old new : Host G U V)
    → function ≡ called old.ledger.frame.contract (called_name old.ledger.frame.function) args → DoesIn r answer_of (λ env. requires_here env (opener_of env room) address function) old new
    → DoesIn r answer_of (λ env. require_auth_for_args env (opener_of env room) address args) old new
given_does room address args function r old new is does =
    subst (λ f. DoesIn r answer_of (λ env. requires_here env (opener_of env room) address f) old new) is does

-- a demand of the running frame, from what meets it to the answer
pub here_does : {G U V : Type 0} (room : ℕ) (address : ScAddress) (function : Function) (answered : Demand) (settles : Result (Unit {0}) HostErr) (r : Result Answer' HostErr) (old mid new : Host G U V)
    → IsMet old.ledger.frame.path.items old.ledger.frame.caller address function answered old mid → Stays old mid → (answered ≡ demands.NoMemory → settles ≡ Err ends.NoMemory) → Stays mid new
    → IsValued settles (λ _. void) r → DoesAround settles (λ u. u) (λ env. settled env (opener_of env room) answered) mid new
    → DoesIn r answer_of (λ env. requires_here env (opener_of env room) address function) old new
here_does room address function answered settles r old mid new met one memory two valued does =
    let act = λ (env : Env). demanded env (opener_of env room) old.ledger.frame.path.items (option_map address_of old.ledger.frame.caller) address function in
    valued_does settles (λ u. u) (λ _. void) r act old new valued
    (in_around settles (λ u. u) act old new (stays_then old mid new one two)
    (met_does room old.ledger.frame.path.items old.ledger.frame.caller address function answered settles old mid new met memory does))
