-- Rows up to the access that they make.
use Rattle.std.proofs.Common.{◌≡◌, ℕ, List, [], ◌∷◌, Result, Ok, refl, sym, subst}
use Rattle.budget_meter.specs.Meter.{Meter}
use Rattle.value_types.specs.Datum.{Datum}
use Rattle.value_types.specs.declared.hash.Hash.{Hash}
use Rattle.ledger_types.specs.declared.durability.Durability.{Durability}
use Rattle.ledger_types.specs.declared.durability.Durability.TheVariants.{Temporary, Persistent}
use Rattle.host_interface.specs.declared.kinds.ArgKind.TheVariants as kinds
use Rattle.invoke_types.specs.declared.event.ContractEvent.{ContractEvent}
use Rattle.invoke_types.specs.declared.event.ContractEventType.TheVariants as types
use Rattle.host_spec.specs.Arguments.{argument, dispatched}
use Rattle.host_spec.specs.Acts as values
use Rattle.host_spec.specs.Answers.{Answer}
use Rattle.host_spec.specs.declared.error.HostErr.{HostErr}
use Rattle.host_frame.specs.Answered.{answer_of}
use Rattle.host_frame.specs.declared.answer.Answer.{Answer as Answer'}
use Rattle.ledger_spec.specs.LedgerMap.{LedgerMap}
use Rattle.contract_storage.specs.Stored.{Stored}
use Rattle.call_spec.specs.World.{Write, Copied, World, Env, made_seq}
use Rattle.call_spec.specs.Acts.{Act, Out, with_frame, after}
use Rattle.call_spec.specs.Events.{event_of, emits, contract_event}
use Rattle.call_spec.specs.Accesses.{access, puts}
use Rattle.call_spec.specs.Keys.{data_key, data_entry}
use Rattle.call_spec.specs.Outcomes.{quiet, Says}
use Rattle.host_acts.specs.Traced.{leaving}
use Rattle.call_spec.specs.Rules.{answered, nothing}
use Rattle.call_spec.specs.Storage.{put_contract_data, get_contract_data, put_in_copy, get_in_copy, deletes, del_contract_data, extending, unless_backward, extend_contract_data_ttl, extend_current_contract_instance_and_code_ttl}
use Rattle.host_acts.specs.Served.{Serves}
use Rattle.host_ledger.specs.Accessed.{Runs}
use Rattle.host_ledger.specs.Storing.{PutsInCopy}
use Rattle.host_acts.specs.StorageTypes.{IsStorageType}
use Rattle.host_acts.proofs.Lemmas.{lives, quietly}
use Rattle.host_acts.specs.declared.storage_types.StorageType.{StorageType}
use Rattle.host_acts.specs.declared.storage_types.StorageType.TheVariants as storage_types

-- the place of data in the ledger
abbrev pub IsAt : Durability → ℕ → Type 0
IsAt durability kind = let r : Result StorageType HostErr = Ok (storage_types.Ledger durability) in IsStorageType r kind

-- the act of the frame's extension
abbrev extension : Env → Datum → Durability → ℕ → ℕ → Act Answer
extension env key durability threshold extend_to = unless_backward threshold extend_to (with_frame (λ frame. extending env (data_key frame.contract key durability) threshold extend_to))

extend_is : (env : Env) (w : World) (shown : List Datum) (a b c d : ℕ) (key : Datum) (threshold extend_to : ℕ) (durability : Durability) (before after : Meter)
    → w.frame.shown ≡ shown → w.meter ≡ before
    → argument kinds.Value shown a ≡ Ok key → argument kinds.U32 shown c ≡ Ok threshold → argument kinds.U32 shown d ≡ Ok extend_to
    → ((memory : List ℕ) → dispatched (a ∷ c ∷ d ∷ []) (values.state shown memory before) ≡ values.Good tt (values.state shown memory after)) → IsAt durability b
    → answered (kinds.Value ∷ kinds.Unsigned ∷ kinds.U32 ∷ kinds.U32 ∷ []) (extend_contract_data_ttl env) (a ∷ b ∷ c ∷ d ∷ []) w
    ≡ extension env key durability threshold extend_to (record w { meter = after })
extend_is env w shown a b c d key threshold extend_to Temporary before after k j h1 h2 h3 paid p = rw (k, j, h1, h2, h3, paid w.frame.memory, p) refl
extend_is env w shown a b c d key threshold extend_to Persistent before after k j h1 h2 h3 paid p = rw (k, j, h1, h2, h3, paid w.frame.memory, p) refl

pub extend_runs : (q : Result Answer' HostErr) (shown : List Datum) (contract : Hash) (a b c d : ℕ) (key : Datum) (threshold extend_to : ℕ) (durability : Durability) (old new : Stored) (before after : Meter)
    → argument kinds.Value shown a ≡ Ok key → argument kinds.U32 shown c ≡ Ok threshold → argument kinds.U32 shown d ≡ Ok extend_to
    → ((memory : List ℕ) → dispatched (a ∷ c ∷ d ∷ []) (values.state shown memory before) ≡ values.Good tt (values.state shown memory after)) → IsAt durability b
    → ((env : Env) → Serves env old → (w : World) → w.entries ≡ old.map → w.frame.contract ≡ contract
    → Says q answer_of (extension env key durability threshold extend_to w) (leaving old new w.trace (λ trace. record w { entries = new.map; trace = trace })))
    → (copy : Copied) → Runs q (kinds.Value ∷ kinds.Unsigned ∷ kinds.U32 ∷ kinds.U32 ∷ []) extend_contract_data_ttl (a ∷ b ∷ c ∷ d ∷ []) shown contract old new before after copy copy
extend_runs q shown contract a b c d key threshold extend_to durability old new before after h1 h2 h3 paid p h copy env serves w i j k l o =
    subst (λ (x : Copied). Says q answer_of (answered (kinds.Value ∷ kinds.Unsigned ∷ kinds.U32 ∷ kinds.U32 ∷ []) (extend_contract_data_ttl env) (a ∷ b ∷ c ∷ d ∷ []) w)
    (leaving old new w.trace (λ trace. record w { entries = new.map; trace = trace; meter = after; frame = record w.frame { copy = x } }))) o
    (subst (λ (out : Out Answer). Says q answer_of out (leaving old new w.trace (λ trace. record w { entries = new.map; trace = trace; meter = after })))
    (sym (extend_is env w shown a b c d key threshold extend_to durability before after k j h1 h2 h3 paid p)) (h env serves (record w { meter = after }) i l))

event_is : (w : World) (shown : List Datum) (contract : Hash) (a b : ℕ) (topics : List Datum) (content : Datum) (event : ContractEvent) (before after : Meter)
    → w.frame.shown ≡ shown → w.meter ≡ before → w.frame.contract ≡ contract → argument kinds.Vec shown a ≡ Ok topics → argument kinds.Value shown b ≡ Ok content
    → ((memory : List ℕ) → dispatched (a ∷ b ∷ []) (values.state shown memory before) ≡ values.Good tt (values.state shown memory after)) → event ≡ event_of types.Contract contract topics content
    → answered (kinds.Vec ∷ kinds.Value ∷ []) contract_event (a ∷ b ∷ []) w ≡ emits event (record w { meter = after })
event_is w shown contract a b topics content event before after k j l h1 h2 paid is = rw (k, j, h1, h2, paid w.frame.memory, is, l) refl

pub event_runs : (q : Result Answer' HostErr) (shown : List Datum) (contract : Hash) (a b : ℕ) (topics : List Datum) (content : Datum) (event : ContractEvent) (before entered after : Meter) (old new : List ContractEvent)
    → argument kinds.Vec shown a ≡ Ok topics → argument kinds.Value shown b ≡ Ok content
    → ((memory : List ℕ) → dispatched (a ∷ b ∷ []) (values.state shown memory before) ≡ values.Good tt (values.state shown memory entered)) → event ≡ event_of types.Contract contract topics content
    → ((w : World) → w.events ≡ old → w.meter ≡ entered → Says q answer_of (emits event w) (quiet w (λ trace. record w { events = new; trace = trace; meter = after })))
    → (w : World) → w.events ≡ old → w.meter ≡ before → w.frame.shown ≡ shown → w.frame.contract ≡ contract
    → Says q answer_of (answered (kinds.Vec ∷ kinds.Value ∷ []) contract_event (a ∷ b ∷ []) w) (quiet w (λ trace. record w { events = new; trace = trace; meter = after }))
event_runs q shown contract a b topics content event before entered after old new h1 h2 paid is h w i j k l =
    subst (λ (out : Out Answer). Says q answer_of out (quiet w (λ trace. record w { events = new; trace = trace; meter = after })))
    (sym (event_is w shown contract a b topics content event before entered k j l h1 h2 paid is)) (h (record w { meter = entered }) i refl)

-- the frame's extension of its instance and of its code
lives_is : (env : Env) (w : World) (shown : List Datum) (a b threshold extend_to : ℕ) (before after' : Meter) → w.frame.shown ≡ shown → w.meter ≡ before
    → argument kinds.U32 shown a ≡ Ok threshold → argument kinds.U32 shown b ≡ Ok extend_to
    → ((memory : List ℕ) → dispatched (a ∷ b ∷ []) (values.state shown memory before) ≡ values.Good tt (values.state shown memory after'))
    → answered (kinds.U32 ∷ kinds.U32 ∷ []) (extend_current_contract_instance_and_code_ttl env) (a ∷ b ∷ []) w
    ≡ unless_backward threshold extend_to (with_frame (λ frame. lives env frame.contract frame.code threshold extend_to)) (record w { meter = after' })
lives_is env w shown a b threshold extend_to before after' k j h1 h2 paid = rw (k, j, h1, h2, paid w.frame.memory) refl

pub lives_run : (q : Result Answer' HostErr) (shown : List Datum) (contract code : Hash) (a b threshold extend_to : ℕ) (old new : Stored) (before after' : Meter)
    → argument kinds.U32 shown a ≡ Ok threshold → argument kinds.U32 shown b ≡ Ok extend_to
    → ((memory : List ℕ) → dispatched (a ∷ b ∷ []) (values.state shown memory before) ≡ values.Good tt (values.state shown memory after'))
    → ((env : Env) → Serves env old → (w : World) → w.entries ≡ old.map → w.frame.contract ≡ contract → w.frame.code ≡ code
    → Says q answer_of (unless_backward threshold extend_to (with_frame (λ frame. lives env frame.contract frame.code threshold extend_to)) w) (leaving old new w.trace (λ trace. record w { entries = new.map; trace = trace })))
    → (env : Env) → Serves env old → (w : World) → w.entries ≡ old.map → w.meter ≡ before → w.frame.shown ≡ shown → w.frame.contract ≡ contract → w.frame.code ≡ code
    → Says q answer_of (answered (kinds.U32 ∷ kinds.U32 ∷ []) (extend_current_contract_instance_and_code_ttl env) (a ∷ b ∷ []) w) (leaving old new w.trace (λ trace. record w { entries = new.map; trace = trace; meter = after' }))
lives_run q shown contract code a b threshold extend_to old new before after' h1 h2 paid h env serves w i j k l m =
    subst (λ (out : Out Answer). Says q answer_of out (leaving old new w.trace (λ trace. record w { entries = new.map; trace = trace; meter = after' })))
    (sym (lives_is env w shown a b threshold extend_to before after' k j h1 h2 paid)) (h env serves (record w { meter = after' }) i l m)

-- the act of the frame's deletion
abbrev deletion : Env → Datum → Durability → Act Answer
deletion env key durability = with_frame (λ frame. access env Write (data_key frame.contract key durability) deletes)

delete_is : (env : Env) (w : World) (shown : List Datum) (a b : ℕ) (key : Datum) (durability : Durability) (before after : Meter) → w.frame.shown ≡ shown → w.meter ≡ before
    → argument kinds.Value shown a ≡ Ok key → ((memory : List ℕ) → dispatched (a ∷ []) (values.state shown memory before) ≡ values.Good tt (values.state shown memory after)) → IsAt durability b
    → answered (kinds.Value ∷ kinds.Unsigned ∷ []) (del_contract_data env) (a ∷ b ∷ []) w ≡ deletion env key durability (record w { meter = after })
delete_is env w shown a b key Temporary before after k j h paid p = rw (k, j, h, paid w.frame.memory, p) refl
delete_is env w shown a b key Persistent before after k j h paid p = rw (k, j, h, paid w.frame.memory, p) refl

pub delete_runs : (q : Result Answer' HostErr) (shown : List Datum) (contract : Hash) (a b : ℕ) (key : Datum) (durability : Durability) (old new : Stored) (before after : Meter)
    → argument kinds.Value shown a ≡ Ok key → ((memory : List ℕ) → dispatched (a ∷ []) (values.state shown memory before) ≡ values.Good tt (values.state shown memory after)) → IsAt durability b
    → ((env : Env) → Serves env old → (w : World) → w.entries ≡ old.map → w.frame.contract ≡ contract
    → Says q answer_of (deletion env key durability w) (leaving old new w.trace (λ trace. record w { entries = new.map; trace = trace })))
    → (copy : Copied) → Runs q (kinds.Value ∷ kinds.Unsigned ∷ []) del_contract_data (a ∷ b ∷ []) shown contract old new before after copy copy
delete_runs q shown contract a b key durability old new before after h1 paid p h copy env serves w i j k l o =
    subst (λ (x : Copied). Says q answer_of (answered (kinds.Value ∷ kinds.Unsigned ∷ []) (del_contract_data env) (a ∷ b ∷ []) w)
    (leaving old new w.trace (λ trace. record w { entries = new.map; trace = trace; meter = after; frame = record w.frame { copy = x } }))) o
    (subst (λ (out : Out Answer). Says q answer_of out (leaving old new w.trace (λ trace. record w { entries = new.map; trace = trace; meter = after })))
    (sym (delete_is env w shown a b key durability before after k j h1 paid p)) (h env serves (record w { meter = after }) i l))

-- the act of the frame's put
abbrev putting : Env → Datum → Datum → Durability → Act Answer
putting env key val durability =
    with_frame (λ frame. access env Write (data_key frame.contract key durability) (puts env (data_entry (made_seq env) frame.contract key durability val) nothing))

put_is : (env : Env) (w : World) (shown : List Datum) (a b c : ℕ) (key val : Datum) (durability : Durability) (before after : Meter) → w.frame.shown ≡ shown → w.meter ≡ before
    → argument kinds.Value shown a ≡ Ok key → argument kinds.Value shown b ≡ Ok val
    → ((memory : List ℕ) → dispatched (a ∷ b ∷ []) (values.state shown memory before) ≡ values.Good tt (values.state shown memory after)) → IsAt durability c
    → answered (kinds.Value ∷ kinds.Value ∷ kinds.Unsigned ∷ []) (put_contract_data env) (a ∷ b ∷ c ∷ []) w ≡ putting env key val durability (record w { meter = after })
put_is env w shown a b c key val Temporary before after k j h1 h2 paid p = rw (k, j, h1, h2, paid w.frame.memory, p) refl
put_is env w shown a b c key val Persistent before after k j h1 h2 paid p = rw (k, j, h1, h2, paid w.frame.memory, p) refl

pub put_runs : (q : Result Answer' HostErr) (shown : List Datum) (contract : Hash) (a b c : ℕ) (key val : Datum) (durability : Durability) (old new : Stored) (before entered after : Meter)
    → argument kinds.Value shown a ≡ Ok key → argument kinds.Value shown b ≡ Ok val
    → ((memory : List ℕ) → dispatched (a ∷ b ∷ []) (values.state shown memory before) ≡ values.Good tt (values.state shown memory entered)) → IsAt durability c
    → ((env : Env) → Serves env old → (w : World) → w.entries ≡ old.map → w.meter ≡ entered → w.frame.contract ≡ contract
    → Says q answer_of (putting env key val durability w) (leaving old new w.trace (λ trace. record w { entries = new.map; trace = trace; meter = after })))
    → (copy : Copied) → Runs q (kinds.Value ∷ kinds.Value ∷ kinds.Unsigned ∷ []) put_contract_data (a ∷ b ∷ c ∷ []) shown contract old new before after copy copy
put_runs q shown contract a b c key val durability old new before entered after h1 h2 paid p h copy env serves w i j k l o =
    subst (λ (x : Copied). Says q answer_of (answered (kinds.Value ∷ kinds.Value ∷ kinds.Unsigned ∷ []) (put_contract_data env) (a ∷ b ∷ c ∷ []) w)
    (leaving old new w.trace (λ trace. record w { entries = new.map; trace = trace; meter = after; frame = record w.frame { copy = x } }))) o
    (subst (λ (out : Out Answer). Says q answer_of out (leaving old new w.trace (λ trace. record w { entries = new.map; trace = trace; meter = after })))
    (sym (put_is env w shown a b c key val durability before entered k j h1 h2 paid p)) (h env serves (record w { meter = entered }) i refl l))

-- ---- data in the frame's copy

abbrev pub IsInCopy : ℕ → Type 0
IsInCopy kind = let r : Result StorageType HostErr = Ok storage_types.Instance in IsStorageType r kind

-- an act on the copy, in a storage that does not change
in_copy : (q : Result Answer' HostErr) (out : Out Answer) (s : Stored) (entered : Meter) (copy : Copied) (w : World) → w.entries ≡ s.map
    → Says q answer_of out (quiet w (λ trace. record w { trace = trace; meter = entered; frame = record w.frame { copy = copy } }))
    → Says q answer_of out (leaving s s w.trace (λ trace. record w { entries = s.map; trace = trace; meter = entered; frame = record w.frame { copy = copy } }))
in_copy q out s entered copy w i h =
    subst (λ (x : LedgerMap). Says q answer_of out (leaving s s w.trace (λ trace. record w { entries = x; trace = trace; meter = entered; frame = record w.frame { copy = copy } }))) i
    (quietly q answer_of out s w (λ trace. record w { trace = trace; meter = entered; frame = record w.frame { copy = copy } }) h)

put_copy_is : (env : Env) (w : World) (shown : List Datum) (a b c : ℕ) (key val : Datum) (before after : Meter) → w.frame.shown ≡ shown → w.meter ≡ before
    → argument kinds.Value shown a ≡ Ok key → argument kinds.Value shown b ≡ Ok val
    → ((memory : List ℕ) → dispatched (a ∷ b ∷ []) (values.state shown memory before) ≡ values.Good tt (values.state shown memory after)) → IsInCopy c
    → answered (kinds.Value ∷ kinds.Value ∷ kinds.Unsigned ∷ []) (put_contract_data env) (a ∷ b ∷ c ∷ []) w ≡ put_in_copy key val (record w { meter = after })
put_copy_is env w shown a b c key val before after k j h1 h2 paid p = rw (k, j, h1, h2, paid w.frame.memory, p) refl

pub put_copied : (q : Result Answer' HostErr) (shown : List Datum) (contract : Hash) (a b c : ℕ) (key val : Datum) (s : Stored) (before entered : Meter) (old new : Copied)
    → argument kinds.Value shown a ≡ Ok key → argument kinds.Value shown b ≡ Ok val
    → ((memory : List ℕ) → dispatched (a ∷ b ∷ []) (values.state shown memory before) ≡ values.Good tt (values.state shown memory entered)) → IsInCopy c
    → PutsInCopy q key val old new → Runs q (kinds.Value ∷ kinds.Value ∷ kinds.Unsigned ∷ []) put_contract_data (a ∷ b ∷ c ∷ []) shown contract s s before entered old new
put_copied q shown contract a b c key val s before entered old new h1 h2 paid p h env serves w i j k l o =
    in_copy q (answered (kinds.Value ∷ kinds.Value ∷ kinds.Unsigned ∷ []) (put_contract_data env) (a ∷ b ∷ c ∷ []) w) s entered new w i
    (subst (λ (out : Out Answer). Says q answer_of out (quiet w (λ trace. record w { trace = trace; meter = entered; frame = record w.frame { copy = new } })))
    (sym (put_copy_is env w shown a b c key val before entered k j h1 h2 paid p)) (h (record w { meter = entered }) o))

get_copy_is : (env : Env) (w : World) (shown : List Datum) (a b : ℕ) (key : Datum) (before after : Meter) → w.frame.shown ≡ shown → w.meter ≡ before → argument kinds.Value shown a ≡ Ok key
    → ((memory : List ℕ) → dispatched (a ∷ []) (values.state shown memory before) ≡ values.Good tt (values.state shown memory after)) → IsInCopy b
    → answered (kinds.Value ∷ kinds.Unsigned ∷ []) (get_contract_data env) (a ∷ b ∷ []) w ≡ get_in_copy key (record w { meter = after })
get_copy_is env w shown a b key before after k j h1 paid p = rw (k, j, h1, paid w.frame.memory, p) refl

pub get_copied : (q : Result Answer' HostErr) (shown : List Datum) (contract : Hash) (a b : ℕ) (key : Datum) (s : Stored) (before entered : Meter) (copy : Copied)
    → argument kinds.Value shown a ≡ Ok key → ((memory : List ℕ) → dispatched (a ∷ []) (values.state shown memory before) ≡ values.Good tt (values.state shown memory entered)) → IsInCopy b
    → ((w : World) → w.frame.copy ≡ copy → Says q answer_of (get_in_copy key w) (quiet w (λ trace. record w { trace = trace })))
    → Runs q (kinds.Value ∷ kinds.Unsigned ∷ []) get_contract_data (a ∷ b ∷ []) shown contract s s before entered copy copy
get_copied q shown contract a b key s before entered copy h1 paid p h env serves w i j k l o =
    in_copy q (answered (kinds.Value ∷ kinds.Unsigned ∷ []) (get_contract_data env) (a ∷ b ∷ []) w) s entered copy w i
    (subst (λ (x : Copied). Says q answer_of (answered (kinds.Value ∷ kinds.Unsigned ∷ []) (get_contract_data env) (a ∷ b ∷ []) w)
    (quiet w (λ trace. record w { trace = trace; meter = entered; frame = record w.frame { copy = x } }))) o
    (subst (λ (out : Out Answer). Says q answer_of out (quiet w (λ trace. record w { trace = trace; meter = entered })))
    (sym (get_copy_is env w shown a b key before entered k j h1 paid p)) (h (record w { meter = entered }) o)))
