-- Functions that open no frame, from the ledger's state to the host.
use Rattle.std.specs.Prelude.{IfOk, IfErr}
use Rattle.std.proofs.Common.{◌≡◌, ℕ, ◌<◌, ◌^◌, List, [], ◌∷◌, length, Result, Ok, Err, refl, sym, ap, ◌∙◌, subst, arith}
use Rattle.budget_meter.specs.Meter.{Meter}
use Rattle.value_types.specs.declared.hash.Hash.{Hash}
use Rattle.host_interface.specs.declared.kinds.ArgKind.TheVariants as kinds
use Rattle.host_spec.specs.Acts as values
use Rattle.host_spec.specs.Arguments.{argument, dispatched}
use Rattle.xdr_spec.specs.Format.{opaque}
use Rattle.value_types.specs.Datum.{Datum, bytes}
use Rattle.host_interface.specs.declared.kinds.ArgKind.{ArgKind}
use Rattle.host_interface.specs.declared.import.HostImport.{HostImport}
use Rattle.host_spec.specs.Answers.{Answer, value, given}
use Rattle.host_spec.specs.Hosted.{IsHosted}
use Rattle.host_spec.specs.declared.error.HostErr.{HostErr}
use Rattle.host_spec.specs.declared.error.HostErr.TheVariants as ends
use Rattle.contract_storage.specs.Stored.{Stored}
use Rattle.host_frame.specs.Answered.{answer_of}
use Rattle.host_frame.specs.declared.answer.Answer.{Answer as Answer'}
use Rattle.call_spec.specs.World.{Access, Copied, World, Env}
use Rattle.call_spec.specs.Acts.{Failed, Out, Good, Bad, Undeclared, Act, world_of, after, gives, lift}
use Rattle.call_spec.specs.Creating.{uploads, upload_wasm}
use Rattle.call_spec.specs.Frames.{Opener}
use Rattle.call_spec.specs.HostFunctions.{host_function}
use Rattle.call_spec.specs.Outcomes.{quiet, Says, trace_of, stopped_kind}
use Rattle.host_ledger.specs.Traced.{Tells, leaving}
use Rattle.call_spec.specs.Rules.{Rule, answered, returning}
use Rattle.host_ledger.specs.Answered.{Answers}
use Rattle.host_ledger.proofs.Lemmas.{afterwards}
use Rattle.host_ledger.specs.Accessed.{Runs}
use Rattle.call_parts.specs.Steps.{Steps}
use Rattle.host_ledger.specs.Called.{Calls}
use Rattle.host_ledger.specs.Worlds.{world_at}
use Rattle.host_ledger.specs.declared.state.HostLedger.{HostLedger}
use Rattle.call_host.specs.Worlds.{world_in, leaving_by, DoesIn}
use Rattle.call_host.specs.declared.host.Host.{Host}
use Rattle.call_host.proofs.Lemmas.{around, go_on, keep_rest, steps_stop, steps_view, telling}

-- what the host holds are few bytes
pub few_bytes : (x : List ℕ) → IsHosted (bytes x) → length x < 2 ^ 32
unfolding opaque
few_bytes x h = let fits = h.made.bounded in omega (arith, fits.1)

-- ---- what is done

pub does_call : {G U V : Type 0} (r : Result ℕ HostErr) (i : HostImport) (words : List ℕ) (old : Host G U V) (new : HostLedger G V) → Calls r i words old.ledger new
    → (opener : Opener) → DoesIn r (λ n. n) (λ env. host_function env opener i words) old (around old new)
does_call r i words old new calls opener env is rest trace =
    calls.does env is.ledger opener (world_in rest old trace) trace

pub does_row : {G U V : Type 0} (r : Result Answer' HostErr) (ks : List ArgKind) (rule : Env → Rule ks) (words given : List ℕ) (old : Host G U V) (new : HostLedger G V) → words ≡ given → Answers r ks rule given old.ledger new
    → DoesIn r answer_of (λ env. answered ks (rule env) words) old (around old new)
does_row r ks rule words given old new e answers env is rest trace =
    subst (λ (ws : List ℕ). let out = answered ks (rule env) ws (world_in rest old trace) in Says r answer_of out (leaving_by old (around old new) trace (world_in rest (around old new)))) (sym e)
    (answers.does env is.ledger (world_in rest old trace) trace)

-- ---- what is shown

abbrev shows : Answer → Act ℕ
shows answer = lift (given answer)

pub shown_on : {G U V : Type 0} (a : Answer') (r : Result ℕ HostErr) (start mid : Host G U V) (new : HostLedger G V) (act : Env → Act Answer)
    → (let made : Result Answer' HostErr = Ok a in DoesIn made answer_of act start mid) → new.storage ≡ mid.ledger.storage
    → ((rest : World) (trace : List Access) → Says r (λ n. n) (lift (given (answer_of a)) (world_at rest mid.ledger trace)) (quiet (world_at rest mid.ledger trace) (world_at rest new)))
    → DoesIn r (λ n. n) (λ env. after (act env) (λ answer. lift (given answer))) start (around mid new)
shown_on a r start mid new act one same two env is rest trace =
    go_on (λ w t. world_in w mid t) (λ w t. world_in w (around mid new) t) keep_rest (telling start mid trace) (telling start (around mid new) trace) (λ _ _ _. refl) a r answer_of (λ n. n) rest
    (act env (world_in rest start trace)) shows (one env is rest trace)
    (λ w t told. afterwards r (λ n. n) (lift (given (answer_of a)) (world_in w mid t)) start.ledger.storage new.storage trace (world_in w mid t) (world_in w (around mid new))
    (subst (λ (s : Stored). Tells start.ledger.storage s trace t) (sym same) told) (two (world_in w mid t) t))

-- an act that leaves one world, with the accesses so far
pub traced : {A B : Type 0} (r : Result A HostErr) (view : A → B) (out : Out B) (left : List Access → World) (w : World) → left w.trace ≡ w → (left []).meter ≡ w.meter → (left []).noted ≡ w.noted
    → Says r view out (quiet w (λ trace. w)) → Says r view out (quiet w left)
traced (Ok a) view out left w e m n p = (p.0, subst (λ o. o ≡ Good (view a) (left (trace_of o))) (sym p.1) (ap (Good (view a)) (sym e)))
traced (Err (ends.Failed d)) view out left w e m n p = (p.0, subst (λ o. o ≡ Bad (Failed d) (left (trace_of o))) (sym p.1) (ap (Bad (Failed d)) (sym e)))
traced (Err ends.Spent) view out left w e m n p = (p.0, p.1, p.2 ∙ sym m, p.3 ∙ sym n)
traced (Err (ends.Archived key)) view out left w e m n p = (p.0, p.1, p.2 ∙ sym m, p.3 ∙ sym n)
traced {B = B} (Err (ends.Undeclared key)) view out left w e m n p =
    (p.0, subst (λ (z : Meter). out ≡ Undeclared (record { kind = stopped_kind out; key = key; used = z.used }) (world_of out)) (sym m) p.1, p.2 ∙ sym m)
traced (Err ends.NoMemory) view out left w e m n p = tt

-- ---- uploads

abbrev hash_value : Hash → Answer
hash_value hash = value (bytes hash.0)

pub upload_failed : (e : HostErr) (code : List ℕ) (old new : Stored) (before after : Meter) → (let r : Result Hash HostErr = Err e in Steps r (λ h. h) (λ env. uploads env code) old new before after)
    → (let none : Result Answer' HostErr = Err e in Steps none answer_of (λ env. returning (uploads env code) (λ hash. bytes hash.0)) old new before after)
upload_failed e code old new before after h = steps_stop e (λ h. h) answer_of (λ env. uploads env code) (λ env hash. gives (hash_value hash)) old new before after h

pub upload_good : (hash : Hash) (r : Result Answer' HostErr) (code : List ℕ) (old new : Stored) (before after : Meter) → IfOk r (λ a. answer_of a ≡ value (bytes hash.0)) → IfErr r (λ e. e ≡ ends.NoMemory)
    → (let given : Result Hash HostErr = Ok hash in Steps given (λ h. h) (λ env. uploads env code) old new before after)
    → Steps r answer_of (λ env. returning (uploads env code) (λ hash. bytes hash.0)) old new before after
upload_good hash (Ok a) code old new before after is memory h = steps_view hash a (λ h. h) answer_of (λ env. uploads env code) hash_value old new before after (sym is) h
upload_good hash (Err e) code old new before after is memory h =
    subst (λ (x : HostErr). let r : Result Answer' HostErr = Err x in Steps r answer_of (λ env. returning (uploads env code) (λ hash. bytes hash.0)) old new before after) (sym memory) (λ env serves w i j. tt)

upload_is : (env : Env) (w : World) (shown : List Datum) (a : ℕ) (code : List ℕ) (before after : Meter) → w.meter ≡ before → w.frame.shown ≡ shown → argument kinds.Bytes shown a ≡ Ok code
    → ((memory : List ℕ) → dispatched (a ∷ []) (values.state shown memory before) ≡ values.Good tt (values.state shown memory after))
    → answered (kinds.Bytes ∷ []) (upload_wasm env) (a ∷ []) w ≡ returning (uploads env code) (λ hash. bytes hash.0) (record w { meter = after })
upload_is env w shown a code before after j k h paid = rw (k, j, h, paid w.frame.memory) refl

pub upload_runs : (r : Result Answer' HostErr) (shown : List Datum) (a : ℕ) (code : List ℕ) (old new : Stored) (before entered after : Meter) → argument kinds.Bytes shown a ≡ Ok code
    → ((memory : List ℕ) → dispatched (a ∷ []) (values.state shown memory before) ≡ values.Good tt (values.state shown memory entered))
    → Steps r answer_of (λ env. returning (uploads env code) (λ hash. bytes hash.0)) old new entered after
    → (contract : Hash) (copy : Copied) → Runs r (kinds.Bytes ∷ []) upload_wasm (a ∷ []) shown contract old new before after copy copy
upload_runs r shown a code old new before entered after h paid steps contract copy env serves w i j k l o =
    subst (λ (x : Copied). Says r answer_of (answered (kinds.Bytes ∷ []) (upload_wasm env) (a ∷ []) w) (leaving old new w.trace (λ trace. record w { entries = new.map; trace = trace; meter = after; frame = record w.frame { copy = x } }))) o
    (subst (λ (out : Out Answer). Says r answer_of out (leaving old new w.trace (λ trace. record w { entries = new.map; trace = trace; meter = after })))
    (sym (upload_is env w shown a code before entered j k h paid)) (steps env serves (record w { meter = entered }) i refl))
