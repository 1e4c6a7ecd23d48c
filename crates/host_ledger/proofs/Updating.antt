-- Updates of a contract's code.
use Rattle.std.proofs.Common.{◌≡◌, ◌==◌, ℕ, List, [], ◌∷◌, length, true, false, Result, Ok, Err, refl, sym, subst, ◌∙◌}
use Rattle.budget_meter.specs.Meter.{Meter}
use Rattle.value_types.specs.Datum.{Datum}
use Rattle.value_types.specs.Hash.{hash_of}
use Rattle.value_types.specs.declared.hash.Hash.{Hash}
use Rattle.ledger_spec.specs.LedgerMap.{LedgerMap}
use Rattle.invoke_types.specs.declared.event.ContractEvent.{ContractEvent}
use Rattle.host_interface.specs.declared.kinds.ArgKind.TheVariants as kinds
use Rattle.host_spec.specs.Acts as values
use Rattle.host_spec.specs.Answers.{Answer}
use Rattle.host_spec.specs.Arguments.{argument, dispatched}
use Rattle.host_spec.specs.declared.error.HostErr.{HostErr}
use Rattle.host_spec.specs.declared.error.HostErr.TheVariants as ends
use Rattle.host_frame.specs.Answered.{answer_of}
use Rattle.host_frame.specs.declared.answer.Answer.{Answer as Answer'}
use Rattle.contract_storage.specs.Stored.{Stored}
use Rattle.call_spec.specs.Errors.{OTHER_SIZE}
use Rattle.call_spec.specs.World.{Copied, Access, World, Env}
use Rattle.call_spec.specs.Acts.{Act, Out, after, fails, with_frame, sets}
use Rattle.call_spec.specs.Creating.{with_code, update_current_contract_wasm}
use Rattle.call_spec.specs.Events.{emits, update_event}
use Rattle.call_spec.specs.Found.{code_at}
use Rattle.call_spec.specs.Outcomes.{quiet, Says}
use Rattle.host_acts.specs.Traced.{leaving}
use Rattle.call_spec.specs.Rules.{answered, nothing}
use Rattle.host_acts.specs.Served.{Serves}
use Rattle.host_acts.specs.Accessed.{Accesses}
use Rattle.host_acts.proofs.Lemmas.{afterwards, ends_then, goes_then, quietly}

-- ---- the event, then the code of the copy

abbrev replacing : Hash → Hash → Hash → Act Answer
replacing contract old code = after (emits (update_event contract old code)) (λ _. sets (with_code code) nothing)

abbrev replaces : Hash → Act Answer
replaces code = with_frame (λ frame. replacing frame.contract frame.copy.code code)

-- the world after the event, and after the change of the copy
abbrev emitted : World → List ContractEvent → Meter → List Access → World
emitted w events meter trace = record w { events = events; trace = trace; meter = meter }

abbrev replaced : World → List ContractEvent → Meter → Copied → List Access → World
replaced w events meter copy trace = record w { events = events; trace = trace; meter = meter; frame = record w.frame { copy = copy } }

-- what is said of an event of the frame
of_frame : {A : Type 0} (r : Result A HostErr) (view : A → Answer) (contract : Hash) (old : Copied) (code : Hash) (events : List ContractEvent) (meter : Meter) (w : World)
    → w.frame.contract ≡ contract → w.frame.copy ≡ old → Says r view (emits (update_event contract old.code code) w) (quiet w (emitted w events meter))
    → Says r view (emits (update_event w.frame.contract w.frame.copy.code code) w) (quiet w (emitted w events meter))
of_frame r view contract old code events meter w k j h =
    subst (λ (x : Hash). Says r view (emits (update_event x w.frame.copy.code code) w) (quiet w (emitted w events meter))) (sym k)
    (subst (λ (x : Copied). Says r view (emits (update_event contract x.code code) w) (quiet w (emitted w events meter))) (sym j) h)

pub replace_stops : (e : HostErr) (contract : Hash) (old : Copied) (code : Hash) (before events : List ContractEvent) (meter after' : Meter)
    → (let r : Result Answer' HostErr = Err e in (w : World) → w.events ≡ before → w.meter ≡ meter → Says r answer_of (emits (update_event contract old.code code) w) (quiet w (emitted w events after')))
    → (w : World) → w.events ≡ before → w.meter ≡ meter → w.frame.contract ≡ contract → w.frame.copy ≡ old
    → let r : Result Answer' HostErr = Err e in Says r answer_of (replaces code w) (quiet w (replaced w events after' old))
replace_stops e contract old code before events meter after' h w i l k j =
    let r : Result Answer' HostErr = Err e in
    subst (λ (x : Copied). Says r answer_of (replaces code w) (quiet w (replaced w events after' x))) j
    (ends_then answer_of answer_of (emits (update_event w.frame.contract w.frame.copy.code code) w) (λ _. sets (with_code code) nothing) (quiet w (emitted w events after')) e
    (of_frame r answer_of contract old code events after' w k j (h w i l)))

pub replace_goes : (a b : Answer') (contract : Hash) (old : Copied) (code : Hash) (before events : List ContractEvent) (meter after' : Meter) → answer_of b ≡ nothing
    → (let r : Result Answer' HostErr = Ok a in (w : World) → w.events ≡ before → w.meter ≡ meter → Says r answer_of (emits (update_event contract old.code code) w) (quiet w (emitted w events after')))
    → (w : World) → w.events ≡ before → w.meter ≡ meter → w.frame.contract ≡ contract → w.frame.copy ≡ old
    → let r : Result Answer' HostErr = Ok b in Says r answer_of (replaces code w) (quiet w (replaced w events after' (record { code = code; storage = old.storage })))
replace_goes a b contract old code before events meter after' void h w i l k j =
    let r : Result Answer' HostErr = Ok a in
    let q : Result Answer' HostErr = Ok b in
    subst (λ (x : Copied). Says q answer_of (replaces code w) (quiet w (replaced w events after' (record { code = code; storage = x.storage })))) j
    (goes_then answer_of answer_of (emits (update_event w.frame.contract w.frame.copy.code code) w) (λ _. sets (with_code code) nothing) (quiet w (emitted w events after'))
    (quiet w (replaced w events after' (record { code = code; storage = w.frame.copy.storage }))) a q (of_frame r answer_of contract old code events after' w k j (h w i l))
    (λ trace told. (told, rw void refl)))

-- ---- the code in the ledger first

abbrev updating : Env → Hash → Act Answer
updating env code = after (code_at env code) (λ _. replaces code)

stops_at : {A : Type 0} (view : A → List ℕ) (e : HostErr) (code : Hash) (s t : Stored) (events : List ContractEvent) (meter : Meter) (copy : Copied)
    → (let r : Result A HostErr = Err e in Accesses r view (λ env. code_at env code) s t)
    → (env : Env) → Serves env s → (w : World) → w.entries ≡ s.map → w.events ≡ events → w.meter ≡ meter → w.frame.copy ≡ copy
    → let r : Result Answer' HostErr = Err e in Says r answer_of (updating env code w) (leaving s t w.trace (replaced (record w { entries = t.map }) events meter copy))
stops_at {A} view e code s t events meter copy h env serves w i j k l =
    let q : Result Answer' HostErr = Err e in
    subst (λ (x : List ContractEvent). Says q answer_of (updating env code w) (leaving s t w.trace (replaced (record w { entries = t.map }) x meter copy))) j
    (subst (λ (x : Meter). Says q answer_of (updating env code w) (leaving s t w.trace (replaced (record w { entries = t.map }) w.events x copy))) k
    (subst (λ (x : Copied). Says q answer_of (updating env code w) (leaving s t w.trace (replaced (record w { entries = t.map }) w.events w.meter x))) l
    (ends_then view answer_of (code_at env code w) (λ _. replaces code) (leaving s t w.trace (λ trace. record w { entries = t.map; trace = trace })) e (h env serves w i))))

pub update_stops : {A : Type 0} (view : A → List ℕ) (e x : HostErr) (code : Hash) (s t : Stored) (events : List ContractEvent) (meter : Meter) (copy : Copied) → x ≡ e
    → (let r : Result A HostErr = Err e in Accesses r view (λ env. code_at env code) s t)
    → (env : Env) → Serves env s → (w : World) → w.entries ≡ s.map → w.events ≡ events → w.meter ≡ meter → w.frame.copy ≡ copy
    → let r : Result Answer' HostErr = Err x in Says r answer_of (updating env code w) (leaving s t w.trace (replaced (record w { entries = t.map }) events meter copy))
update_stops view e x code s t events meter copy is h env serves w i j k l =
    subst (λ (y : HostErr). let r : Result Answer' HostErr = Err y in Says r answer_of (updating env code w) (leaving s t w.trace (replaced (record w { entries = t.map }) events meter copy))) (sym is)
    (stops_at view e code s t events meter copy h env serves w i j k l)

pub update_goes : {A : Type 0} (view : A → List ℕ) (a : A) (q : Result Answer' HostErr) (contract code : Hash) (s t : Stored) (before events : List ContractEvent) (meter after' : Meter) (old new : Copied)
    → (let r : Result A HostErr = Ok a in Accesses r view (λ env. code_at env code) s t)
    → ((w : World) → w.events ≡ before → w.meter ≡ meter → w.frame.contract ≡ contract → w.frame.copy ≡ old → Says q answer_of (replaces code w) (quiet w (replaced w events after' new)))
    → (env : Env) → Serves env s → (w : World) → w.entries ≡ s.map → w.events ≡ before → w.meter ≡ meter → w.frame.contract ≡ contract → w.frame.copy ≡ old
    → Says q answer_of (updating env code w) (leaving s t w.trace (replaced (record w { entries = t.map }) events after' new))
update_goes {A} view a q contract code s t before events meter after' old new h next env serves w i j k l m =
    goes_then view answer_of (code_at env code w) (λ _. replaces code) (leaving s t w.trace (λ trace. record w { entries = t.map; trace = trace }))
    (leaving s t w.trace (replaced (record w { entries = t.map }) events after' new)) a q (h env serves w i)
    (λ trace told. afterwards q answer_of (replaces code (record w { entries = t.map; trace = trace })) s t w.trace (record w { entries = t.map; trace = trace })
    (replaced (record w { entries = t.map }) events after' new) told (next (record w { entries = t.map; trace = trace }) j k l m))

-- ---- the row

update_is : (env : Env) (w : World) (shown : List Datum) (a : ℕ) (bs : List ℕ) (before after' : Meter) → w.frame.shown ≡ shown → w.meter ≡ before → argument kinds.Bytes shown a ≡ Ok bs
    → ((memory : List ℕ) → dispatched (a ∷ []) (values.state shown memory before) ≡ values.Good tt (values.state shown memory after'))
    → answered (kinds.Bytes ∷ []) (update_current_contract_wasm env) (a ∷ []) w ≡ update_current_contract_wasm env bs (record w { meter = after' })
update_is env w shown a bs before after' k j h paid = rw (k, j, h, paid w.frame.memory) refl

sized_is : (env : Env) (w : World) (bs : List ℕ) (code : Hash) → length bs == 32 ≡ true → code ≡ hash_of bs → update_current_contract_wasm env bs w ≡ updating env code w
sized_is env w bs code sized is = rw (sized, is) refl

missized_is : (env : Env) (w : World) (bs : List ℕ) → length bs == 32 ≡ false → update_current_contract_wasm env bs w ≡ fails OTHER_SIZE w
missized_is env w bs sized = rw sized refl

pub update_runs : (q : Result Answer' HostErr) (shown : List Datum) (contract code : Hash) (a : ℕ) (bs : List ℕ) (s t : Stored) (old new : List ContractEvent) (before entered after' : Meter) (copy changed : Copied)
    → argument kinds.Bytes shown a ≡ Ok bs → ((memory : List ℕ) → dispatched (a ∷ []) (values.state shown memory before) ≡ values.Good tt (values.state shown memory entered))
    → length bs == 32 ≡ true → code ≡ hash_of bs
    → ((env : Env) → Serves env s → (w : World) → w.entries ≡ s.map → w.events ≡ old → w.meter ≡ entered → w.frame.contract ≡ contract → w.frame.copy ≡ copy
    → Says q answer_of (updating env code w) (leaving s t w.trace (replaced (record w { entries = t.map }) new after' changed)))
    → (env : Env) → Serves env s → (w : World) → w.entries ≡ s.map → w.events ≡ old → w.meter ≡ before → w.frame.shown ≡ shown → w.frame.contract ≡ contract → w.frame.copy ≡ copy
    → Says q answer_of (answered (kinds.Bytes ∷ []) (update_current_contract_wasm env) (a ∷ []) w) (leaving s t w.trace (replaced (record w { entries = t.map }) new after' changed))
update_runs q shown contract code a bs s t old new before entered after' copy changed h paid sized is runs env serves w i l j k m n =
    subst (λ (out : Out Answer). Says q answer_of out (leaving s t w.trace (replaced (record w { entries = t.map }) new after' changed)))
    (sym (update_is env w shown a bs before entered k j h paid ∙ sized_is env (record w { meter = entered }) bs code sized is))
    (runs env serves (record w { meter = entered }) i l refl m n)

refuses : (shown : List Datum) (a : ℕ) (bs : List ℕ) (old : List ContractEvent) (before entered : Meter) (copy : Copied)
    → argument kinds.Bytes shown a ≡ Ok bs → ((memory : List ℕ) → dispatched (a ∷ []) (values.state shown memory before) ≡ values.Good tt (values.state shown memory entered))
    → length bs == 32 ≡ false
    → (env : Env) (w : World) → w.events ≡ old → w.meter ≡ before → w.frame.shown ≡ shown → w.frame.copy ≡ copy
    → let q : Result Answer' HostErr = Err (ends.Failed OTHER_SIZE) in Says q answer_of (answered (kinds.Bytes ∷ []) (update_current_contract_wasm env) (a ∷ []) w) (quiet w (replaced w old entered copy))
refuses shown a bs old before entered copy h paid sized env w l j k n =
    let q : Result Answer' HostErr = Err (ends.Failed OTHER_SIZE) in
    subst (λ (x : List ContractEvent). Says q answer_of (answered (kinds.Bytes ∷ []) (update_current_contract_wasm env) (a ∷ []) w) (quiet w (replaced w x entered copy))) l
    (subst (λ (x : Copied). Says q answer_of (answered (kinds.Bytes ∷ []) (update_current_contract_wasm env) (a ∷ []) w) (quiet w (replaced w w.events entered x))) n
    (subst (λ (out : Out Answer). Says q answer_of out (quiet w (replaced w w.events entered w.frame.copy)))
    (sym (update_is env w shown a bs before entered k j h paid ∙ missized_is env (record w { meter = entered }) bs sized)) (refl, refl)))

pub update_refuses : (e : HostErr) (shown : List Datum) (a : ℕ) (bs : List ℕ) (s : Stored) (old : List ContractEvent) (before entered : Meter) (copy : Copied)
    → argument kinds.Bytes shown a ≡ Ok bs → ((memory : List ℕ) → dispatched (a ∷ []) (values.state shown memory before) ≡ values.Good tt (values.state shown memory entered))
    → length bs == 32 ≡ false → e ≡ ends.Failed OTHER_SIZE
    → (env : Env) (w : World) → w.entries ≡ s.map → w.events ≡ old → w.meter ≡ before → w.frame.shown ≡ shown → w.frame.copy ≡ copy
    → let q : Result Answer' HostErr = Err e in
    Says q answer_of (answered (kinds.Bytes ∷ []) (update_current_contract_wasm env) (a ∷ []) w) (leaving s s w.trace (replaced (record w { entries = s.map }) old entered copy))
update_refuses e shown a bs s old before entered copy h paid sized is env w i l j k n =
    subst (λ (x : HostErr). let q : Result Answer' HostErr = Err x in
    Says q answer_of (answered (kinds.Bytes ∷ []) (update_current_contract_wasm env) (a ∷ []) w) (leaving s s w.trace (replaced (record w { entries = s.map }) old entered copy))) (sym is)
    (subst (λ (x : LedgerMap). let q : Result Answer' HostErr = Err (ends.Failed OTHER_SIZE) in
    Says q answer_of (answered (kinds.Bytes ∷ []) (update_current_contract_wasm env) (a ∷ []) w) (leaving s s w.trace (replaced (record w { entries = x }) old entered copy))) i
    (quietly (Err (ends.Failed OTHER_SIZE)) answer_of (answered (kinds.Bytes ∷ []) (update_current_contract_wasm env) (a ∷ []) w) s w (replaced w old entered copy)
    (refuses shown a bs old before entered copy h paid sized env w l j k n)))
