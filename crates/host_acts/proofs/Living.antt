-- Extensions of the instance and the code.
use Rattle.std.proofs.Common.{◌≡◌, ℕ, false, Result, Ok, Err, refl, sym, subst}
use Rattle.std.specs.Prelude.{nat_lt}
use Rattle.value_types.specs.declared.hash.Hash.{Hash}
use Rattle.ledger_types.specs.declared.key.LedgerKey.{LedgerKey}
use Rattle.host_spec.specs.Answers.{Answer}
use Rattle.host_spec.specs.declared.error.HostErr.{HostErr}
use Rattle.host_frame.specs.Answered.{answer_of}
use Rattle.host_frame.specs.declared.answer.Answer.{Answer as Answer'}
use Rattle.contract_storage.specs.Stored.{Stored, IsLater}
use Rattle.call_spec.specs.World.{World, Env}
use Rattle.call_spec.specs.Acts.{Act, Out, after, with_frame}
use Rattle.call_spec.specs.Keys.{instance_key, code_key}
use Rattle.call_spec.specs.Outcomes.{Says}
use Rattle.host_acts.specs.Traced.{leaving}
use Rattle.call_spec.specs.Storage.{extending, unless_backward}
use Rattle.host_acts.specs.Served.{Serves}
use Rattle.host_acts.specs.Accessed.{Accesses}
use Rattle.host_acts.proofs.Composing.{ends_then, goes_on, serves_later}

-- an access that ends, and what would have come after it
stops_first : (e : HostErr) (first second : Env → Act Answer) (old new : Stored) → (let r : Result Answer' HostErr = Err e in Accesses r answer_of first old new)
    → let q : Result Answer' HostErr = Err e in Accesses q answer_of (λ env. after (first env) (λ _. second env)) old new
stops_first e first second old new h env serves w i =
    ends_then answer_of answer_of (first env w) (λ _. second env) (leaving old new w.trace (λ trace. record w { entries = new.map; trace = trace })) e (h env serves w i)

-- one access after another
goes_second : (a : Answer') (q : Result Answer' HostErr) (first second : Env → Act Answer) (old middle new : Stored) → (let r : Result Answer' HostErr = Ok a in Accesses r answer_of first old middle)
    → IsLater old middle → Accesses q answer_of second middle new → Accesses q answer_of (λ env. after (first env) (λ _. second env)) old new
goes_second a q first second old middle new h later k env serves w i =
    goes_on answer_of answer_of (first env w) (λ _. second env) old middle new w.trace (λ trace. record w { entries = middle.map; trace = trace }) (λ trace. record w { entries = new.map; trace = trace }) a q (h env serves w i)
    (λ trace. k env (serves_later env old middle later serves) (record w { entries = middle.map; trace = trace }) refl)

-- the extension at a key that is another
at_same : (q : Result Answer' HostErr) (key same : LedgerKey) (threshold extend_to : ℕ) (old new : Stored) → key ≡ same → Accesses q answer_of (λ env. extending env key threshold extend_to) old new
    → Accesses q answer_of (λ env. extending env same threshold extend_to) old new
at_same q key same threshold extend_to old new e h = subst (λ (k : LedgerKey). Accesses q answer_of (λ env. extending env k threshold extend_to) old new) e h

pub extend_stops : (e : HostErr) (contract code : Hash) (key : LedgerKey) (threshold extend_to : ℕ) (old new : Stored) → key ≡ instance_key contract
    → (let r : Result Answer' HostErr = Err e in Accesses r answer_of (λ env. extending env key threshold extend_to) old new)
    → let q : Result Answer' HostErr = Err e in Accesses q answer_of (λ env. after (extending env (instance_key contract) threshold extend_to) (λ _. extending env (code_key code) threshold extend_to)) old new
extend_stops e contract code key threshold extend_to old new is h =
    stops_first e (λ env. extending env (instance_key contract) threshold extend_to) (λ env. extending env (code_key code) threshold extend_to) old new (at_same (Err e) key (instance_key contract) threshold extend_to old new is h)

pub extend_goes : (a : Answer') (q : Result Answer' HostErr) (contract code : Hash) (first second : LedgerKey) (threshold extend_to : ℕ) (old middle new : Stored) → first ≡ instance_key contract → second ≡ code_key code
    → (let r : Result Answer' HostErr = Ok a in Accesses r answer_of (λ env. extending env first threshold extend_to) old middle) → IsLater old middle
    → Accesses q answer_of (λ env. extending env second threshold extend_to) middle new
    → Accesses q answer_of (λ env. after (extending env (instance_key contract) threshold extend_to) (λ _. extending env (code_key code) threshold extend_to)) old new
extend_goes a q contract code first second threshold extend_to old middle new is is' h later k =
    goes_second a q (λ env. extending env (instance_key contract) threshold extend_to) (λ env. extending env (code_key code) threshold extend_to) old middle new
    (at_same (Ok a) first (instance_key contract) threshold extend_to old middle is h) later (at_same q second (code_key code) threshold extend_to middle new is' k)

-- ---- the frame's extensions

-- both extensions, one after the other
abbrev pub lives : Env → Hash → Hash → ℕ → ℕ → Act Answer
lives env contract code threshold extend_to = after (extending env (instance_key contract) threshold extend_to) (λ _. extending env (code_key code) threshold extend_to)

forward_is : (contract code : Hash) (threshold extend_to : ℕ) → nat_lt extend_to threshold ≡ false → (env : Env) (w : World) → w.frame.contract ≡ contract → w.frame.code ≡ code
    → unless_backward threshold extend_to (with_frame (λ frame. lives env frame.contract frame.code threshold extend_to)) w ≡ lives env contract code threshold extend_to w
forward_is contract code threshold extend_to ahead env w j k = rw (ahead, j, k) refl

pub forward_lives : (q : Result Answer' HostErr) (contract code : Hash) (threshold extend_to : ℕ) (old new : Stored) → nat_lt extend_to threshold ≡ false
    → Accesses q answer_of (λ env. lives env contract code threshold extend_to) old new
    → (env : Env) → Serves env old → (w : World) → w.entries ≡ old.map → w.frame.contract ≡ contract → w.frame.code ≡ code
    → Says q answer_of (unless_backward threshold extend_to (with_frame (λ frame. lives env frame.contract frame.code threshold extend_to)) w) (leaving old new w.trace (λ trace. record w { entries = new.map; trace = trace }))
forward_lives q contract code threshold extend_to old new ahead h env serves w i j k =
    subst (λ (out : Out Answer). Says q answer_of out (leaving old new w.trace (λ trace. record w { entries = new.map; trace = trace }))) (sym (forward_is contract code threshold extend_to ahead env w j k)) (h env serves w i)
