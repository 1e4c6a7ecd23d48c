-- The steps of the crate, from the calls that they are made of.
use Rattle.std.proofs.Common.{◌≡◌, ℕ, ◌*◌, Bool, true, false, List, [], ◌∷◌, length, Option, Result, Ok, Err, refl, sym, ap, subst, ◌∙◌}
use Rattle.std.specs.Prelude.{is_some}
use Rattle.sha2.specs.Sha256.{sha256}
use Rattle.budget_meter.specs.Meter.{Meter}
use Rattle.budget_meter.specs.declared.kind.Kind.{Kind}
use Rattle.budget_meter.specs.declared.kind.Kind.TheVariants.{ComputeSha256Hash, VmInstantiation, InvokeVmFunction, MemAlloc}
use Rattle.value_types.specs.Hash.{hash_of}
use Rattle.value_types.specs.declared.hash.Hash.{Hash}
use Rattle.ledger_types.specs.declared.key.LedgerKey.{LedgerKey}
use Rattle.ledger_types.specs.declared.entry.LedgerEntry.{LedgerEntry}
use Rattle.ledger_spec.specs.declared.Kept.{Kept}
use Rattle.wasm_spec.specs.declared.module.Module.{Module}
use Rattle.wasm_spec.specs.declared.types.ResizableLimits.{ResizableLimits}
use Rattle.wasm_spec.specs.Stores.{PAGE}
use Rattle.module_spec.specs.Loading.{module_of}
use Rattle.host_spec.specs.Acts as values
use Rattle.host_spec.specs.declared.error.HostErr.{HostErr}
use Rattle.contract_storage.specs.Stored.{Stored, IsLater, IsRead}
use Rattle.contract_storage.specs.declared.access.StoErr.{StoErr}
use Rattle.call_spec.specs.Errors.{NO_MODULE}
use Rattle.call_spec.specs.World.{AccessKind, Read, Write, Copied, World, Env, made_seq}
use Rattle.call_spec.specs.Acts.{Act, Out, Good, Bad, Undeclared, after, then_do, gives, only_where, lift, paying}
use Rattle.call_spec.specs.Accesses.{Effect, access, puts}
use Rattle.call_spec.specs.Keys.{instance_key, instance_entry, code_key, code_entry}
use Rattle.call_spec.specs.Found.{code_at, with_module}
use Rattle.call_spec.specs.Frames.{paying_pages}
use Rattle.call_spec.specs.Creating.{is_there, puts_code, uploads}
use Rattle.call_spec.specs.Outcomes.{quiet, Says}
use Rattle.host_ledger.specs.Worlds.{Serves}
use Rattle.host_ledger.specs.Accessed.{end_of, named, Accesses}
use Rattle.host_ledger.proofs.Lemmas.{later_read}
use Rattle.call_parts.specs.Steps.{Steps, Charges}
use Rattle.call_parts.specs.Entered.{judges}
use Rattle.call_parts.proofs.Joining.{then_assoc, charges_steps, accesses_steps, steps_stop, steps_then, steps_as, charges_stop, charges_then, serves_later}
use Rattle.call_parts.proofs.Writing.{puts_as}

-- ---- keys

pub steps_at : {A B : Type 0} (q : Result A HostErr) (view : A → B) (kind : AccessKind) (key at : LedgerKey) (effect : Env → Option Kept → Effect B) (old new : Stored) (before after' : Meter) → key ≡ at
    → Steps q view (λ env. access env kind key (effect env)) old new before after' → Steps q view (λ env. access env kind at (effect env)) old new before after'
steps_at q view kind key at effect old new before after' is h = subst (λ (k : LedgerKey). Steps q view (λ env. access env kind k (effect env)) old new before after') is h

pub accesses_at : {A B : Type 0} (q : Result A HostErr) (view : A → B) (kind : AccessKind) (key at : LedgerKey) (effect : Env → Option Kept → Effect B) (old new : Stored) → key ≡ at
    → Accesses q view (λ env. access env kind key (effect env)) old new → Accesses q view (λ env. access env kind at (effect env)) old new
accesses_at q view kind key at effect old new is h = subst (λ (k : LedgerKey). Accesses q view (λ env. access env kind k (effect env)) old new) is h

-- ---- instances

instance_put : (contract : Hash) (copy : Copied) (key : LedgerKey) (entry : LedgerEntry) (n : ℕ) (s : Stored) → key ≡ instance_key contract → entry ≡ instance_entry n contract copy → s.n ≡ n
    → (env : Env) → Serves env s → (w : World)
    → access env Write key (puts env entry (tt {0})) w ≡ access env Write (instance_key contract) (puts env (instance_entry (made_seq env) contract copy) (tt {0})) w
instance_put contract copy key entry n s is made number env serves w = rw (is, made, ← number, serves.number) refl

pub instance_written : (q : Result (Unit {0}) HostErr) (contract : Hash) (copy : Copied) (key : LedgerKey) (entry : LedgerEntry) (n : ℕ) (old new : Stored) (before after' : Meter) → key ≡ instance_key contract
    → entry ≡ instance_entry n contract copy → old.n ≡ n → Steps q (λ u. u) (λ env. access env Write key (puts env entry tt)) old new before after'
    → Steps q (λ u. u) (λ env. access env Write (instance_key contract) (puts env (instance_entry (made_seq env) contract copy) tt)) old new before after'
instance_written q contract copy key entry n old new before after' is made number h =
    steps_as q (λ (u : Unit {0}). u) (λ env. access env Write key (puts env entry tt)) (λ env. access env Write (instance_key contract) (puts env (instance_entry (made_seq env) contract copy) tt)) old new before after'
    (instance_put contract copy key entry n old is made number) h

-- ---- codes

code_put : (hash : Hash) (code : List ℕ) (key : LedgerKey) (entry : LedgerEntry) (n : ℕ) (s : Stored) → key ≡ code_key hash → entry ≡ code_entry n hash code → s.n ≡ n
    → (env : Env) → Serves env s → (w : World)
    → access env Write key (puts env entry (tt {0})) w ≡ access env Write (code_key hash) (puts env (code_entry (made_seq env) hash code) (tt {0})) w
code_put hash code key entry n s is made number env serves w = rw (is, made, ← number, serves.number) refl

-- the act of the put of a code
abbrev pub puts_the_code : Hash → List ℕ → Env → Act Hash
puts_the_code hash code env = access env Write (code_key hash) (puts env (code_entry (made_seq env) hash code) hash)

code_steps : (q : Result (Unit {0}) HostErr) (hash : Hash) (code : List ℕ) (key : LedgerKey) (entry : LedgerEntry) (n : ℕ) (old new : Stored) (before after' : Meter) → key ≡ code_key hash
    → entry ≡ code_entry n hash code → old.n ≡ n → Steps q (λ u. u) (λ env. access env Write key (puts env entry tt)) old new before after'
    → Steps q (λ u. u) (λ env. access env Write (code_key hash) (puts env (code_entry (made_seq env) hash code) tt)) old new before after'
code_steps q hash code key entry n old new before after' is made number h =
    steps_as q (λ (u : Unit {0}). u) (λ env. access env Write key (puts env entry tt)) (λ env. access env Write (code_key hash) (puts env (code_entry (made_seq env) hash code) tt)) old new before after'
    (code_put hash code key entry n old is made number) h

pub code_written : (u : Unit {0}) (hash : Hash) (code : List ℕ) (key : LedgerKey) (entry : LedgerEntry) (n : ℕ) (old new : Stored) (before after' : Meter) → key ≡ code_key hash → entry ≡ code_entry n hash code → old.n ≡ n
    → IsLater old new → (let q : Result (Unit {0}) HostErr = Ok u in Steps q (λ u. u) (λ env. access env Write key (puts env entry tt)) old new before after')
    → (let q : Result Hash HostErr = Ok hash in Steps q (λ h. h) (puts_the_code hash code) old new before after')
code_written u hash code key entry n old new before after' is made number later h =
    let q : Result Hash HostErr = Ok hash in
    steps_as q (λ (h : Hash). h) (λ env. after (access env Write (code_key hash) (puts env (code_entry (made_seq env) hash code) tt)) (λ _. gives hash)) (puts_the_code hash code) old new before after'
    (λ env serves w. puts_as env (code_key hash) (code_entry (made_seq env) hash code) hash w)
    (steps_then (λ (u : Unit {0}). u) (λ (h : Hash). h) u q (λ env. access env Write (code_key hash) (puts env (code_entry (made_seq env) hash code) tt)) (λ env _. gives hash) old new new before after' after'
    (code_steps (Ok u) hash code key entry n old new before after' is made number h) (λ env. serves_later env old new later) (λ env serves w i j. ((λ told. told), rw (← i, ← j) refl)))

pub code_unwritten : (e : HostErr) (hash : Hash) (code : List ℕ) (key : LedgerKey) (entry : LedgerEntry) (n : ℕ) (old new : Stored) (before after' : Meter) → key ≡ code_key hash → entry ≡ code_entry n hash code → old.n ≡ n
    → (let q : Result (Unit {0}) HostErr = Err e in Steps q (λ u. u) (λ env. access env Write key (puts env entry tt)) old new before after')
    → (let q : Result Hash HostErr = Err e in Steps q (λ h. h) (puts_the_code hash code) old new before after')
code_unwritten e hash code key entry n old new before after' is made number h =
    let q : Result Hash HostErr = Err e in
    steps_as q (λ (h : Hash). h) (λ env. after (access env Write (code_key hash) (puts env (code_entry (made_seq env) hash code) tt)) (λ _. gives hash)) (puts_the_code hash code) old new before after'
    (λ env serves w. puts_as env (code_key hash) (code_entry (made_seq env) hash code) hash w)
    (steps_stop (λ (u : Unit {0}). u) (λ (h : Hash). h) e (λ env. access env Write (code_key hash) (puts env (code_entry (made_seq env) hash code) tt)) (λ env _. gives hash) old new before after'
    (code_steps (Err e) hash code key entry n old new before after' is made number h))

-- whether a code is there, and the put if it is not
abbrev pub stores : Hash → List ℕ → Env → Act Hash
stores hash code env = after (access env Read (code_key hash) is_there) (λ there. puts_code there env hash code)

-- the access that looks for a code
abbrev pub looks : Hash → Env → Act Bool
looks hash env = access env Read (code_key hash) is_there

-- the access that found whether a code is there
looked : (there b : Bool) (hash : Hash) (key : LedgerKey) (old mid : Stored) (meter : Meter) → key ≡ code_key hash → there ≡ b
    → (let r : Result Bool HostErr = Ok there in Accesses r (λ b. b) (λ env. access env Read key is_there) old mid)
    → (let r : Result Bool HostErr = Ok b in Steps r (λ b. b) (looks hash) old mid meter meter)
looked there b hash key old mid meter is test h =
    let r : Result Bool HostErr = Ok b in
    accesses_steps r (λ (b : Bool). b) (looks hash) old mid meter
    (accesses_at r (λ (b : Bool). b) Read key (code_key hash) (λ env. is_there) old mid is
    (subst (λ (x : Bool). let found : Result Bool HostErr = Ok x in Accesses found (λ b. b) (λ env. access env Read key is_there) old mid) test h))

-- a code that is there
pub code_seen : (there : Bool) (hash : Hash) (code : List ℕ) (key : LedgerKey) (old mid : Stored) (meter : Meter) → key ≡ code_key hash → there ≡ true → IsRead old mid
    → (let r : Result Bool HostErr = Ok there in Accesses r (λ b. b) (λ env. access env Read key is_there) old mid)
    → (let q : Result Hash HostErr = Ok hash in Steps q (λ h. h) (stores hash code) old mid meter meter)
code_seen there hash code key old mid meter is test read h =
    let q : Result Hash HostErr = Ok hash in
    steps_then (λ (b : Bool). b) (λ (h : Hash). h) true q (looks hash) (λ env there. puts_code there env hash code) old mid mid meter meter meter
    (looked there true hash key old mid meter is test h) (λ env. serves_later env old mid (later_read old mid read)) (λ env serves w i j. ((λ told. told), rw (← i, ← j) refl))

-- a code that is put, since it is not there
pub code_stored : (there : Bool) (q : Result Hash HostErr) (hash : Hash) (code : List ℕ) (key : LedgerKey) (old mid new : Stored) (before after' : Meter) → key ≡ code_key hash → there ≡ false → IsRead old mid
    → (let r : Result Bool HostErr = Ok there in Accesses r (λ b. b) (λ env. access env Read key is_there) old mid)
    → Steps q (λ h. h) (puts_the_code hash code) mid new before after' → Steps q (λ h. h) (stores hash code) old new before after'
code_stored there q hash code key old mid new before after' is test read h put =
    steps_then (λ (b : Bool). b) (λ (h : Hash). h) false q (looks hash) (λ env there. puts_code there env hash code) old mid new before before after'
    (looked there false hash key old mid before is test h) (λ env. serves_later env old mid (later_read old mid read)) put

pub code_unseen : (e : HostErr) (hash : Hash) (code : List ℕ) (key : LedgerKey) (old mid : Stored) (meter : Meter) → key ≡ code_key hash
    → (let r : Result Bool HostErr = Err e in Accesses r (λ b. b) (λ env. access env Read key is_there) old mid)
    → (let q : Result Hash HostErr = Err e in Steps q (λ h. h) (stores hash code) old mid meter meter)
code_unseen e hash code key old mid meter is h =
    steps_stop (λ (b : Bool). b) (λ (h : Hash). h) e (looks hash) (λ env there. puts_code there env hash code) old mid meter meter
    (accesses_steps (Err e) (λ (b : Bool). b) (looks hash) old mid meter (accesses_at (Err e) (λ (b : Bool). b) Read key (code_key hash) (λ env. is_there) old mid is h))

-- ---- charges

-- a charge of this input, and what comes after it
pub paid_then : {C D : Type 0} (u : Unit {0}) (q : Result C HostErr) (view : C → D) (kind : Kind) (input len : ℕ) (next : Act D) (before between after' : Meter) → input ≡ len
    → (let r : Result (Unit {0}) HostErr = Ok u in Charges r (λ u. u) (lift (values.charged kind input)) before between) → Charges q view next between after' → Charges q view (paying kind len next) before after'
paid_then {C} {D} u q view kind input len next before between after' is h k =
    subst (λ (n : ℕ). Charges q view (paying kind n next) before after') is
    (charges_then (λ (u : Unit {0}). u) view u q (lift (values.charged kind input)) (λ _. next) before between after' h k)

pub unpaid : {C D : Type 0} (e : HostErr) (view : C → D) (kind : Kind) (input len : ℕ) (next : Act D) (before after' : Meter) → input ≡ len
    → (let r : Result (Unit {0}) HostErr = Err e in Charges r (λ u. u) (lift (values.charged kind input)) before after') → (let q : Result C HostErr = Err e in Charges q view (paying kind len next) before after')
unpaid {C} {D} e view kind input len next before after' is h =
    subst (λ (n : ℕ). let q : Result C HostErr = Err e in Charges q view (paying kind n next) before after') is
    (charges_stop (λ (u : Unit {0}). u) view e (lift (values.charged kind input)) (λ _. next) before after' h)

-- a charge, and nothing after it
pub charged_alone : (q : Result (Unit {0}) HostErr) (kind : Kind) (input : ℕ) (before after' : Meter) → Charges q (λ u. u) (lift (values.charged kind input)) before after' → Charges q (λ u. u) (paying kind input (gives tt)) before after'
charged_alone (Ok u) kind input before after' h =
    charges_then (λ (u : Unit {0}). u) (λ (u : Unit {0}). u) u (Ok u) (lift (values.charged kind input)) (λ _. gives tt) before after' after' h (λ w j. (refl, subst (λ (m : Meter). Good tt w ≡ Good tt (record w { meter = m })) j refl))
charged_alone (Err e) kind input before after' h = charges_stop (λ (u : Unit {0}). u) (λ (u : Unit {0}). u) e (lift (values.charged kind input)) (λ _. gives tt) before after' h

-- the pages' charge before an act
pub pages_then : {A : Type 0} (ms : List ResizableLimits) (act : Act A) (w : World) → after (paying_pages ms (gives (tt {0}))) (λ _. act) w ≡ paying_pages ms act w
pages_then [] act w = refl
pages_then (l ∷ ms) act w = then_assoc (lift (values.charged MemAlloc (PAGE * l.min)) w) (λ _. gives (tt {0})) (λ _. act)

charges_as : {A B : Type 0} (q : Result A HostErr) (view : A → B) (act act' : Act B) (before after' : Meter) → ((w : World) → act w ≡ act' w) → Charges q view act before after' → Charges q view act' before after'
charges_as q view act act' before after' same h w j = subst (λ (out : Out _). Says q view out (quiet w (λ trace. record w { meter = after' }))) (same w) (h w j)

pub run_paid : (u : Unit {0}) (q : Result (Unit {0}) HostErr) (ms : List ResizableLimits) (before between after' : Meter)
    → (let r : Result (Unit {0}) HostErr = Ok u in Charges r (λ u. u) (paying_pages ms (gives tt)) before between) → Charges q (λ u. u) (lift (values.charged InvokeVmFunction 1)) between after'
    → Charges q (λ u. u) (paying_pages ms (paying InvokeVmFunction 1 (gives tt))) before after'
run_paid u q ms before between after' h k =
    charges_as q (λ (u : Unit {0}). u) (after (paying_pages ms (gives tt)) (λ _. paying InvokeVmFunction 1 (gives tt))) (paying_pages ms (paying InvokeVmFunction 1 (gives tt))) before after'
    (pages_then ms (paying InvokeVmFunction 1 (gives tt)))
    (charges_then (λ (u : Unit {0}). u) (λ (u : Unit {0}). u) u q (paying_pages ms (gives tt)) (λ _. paying InvokeVmFunction 1 (gives tt)) before between after' h (charged_alone q InvokeVmFunction 1 between after' k))

pub run_unpaid : (e : HostErr) (ms : List ResizableLimits) (before after' : Meter) → (let r : Result (Unit {0}) HostErr = Err e in Charges r (λ u. u) (paying_pages ms (gives tt)) before after')
    → (let q : Result (Unit {0}) HostErr = Err e in Charges q (λ u. u) (paying_pages ms (paying InvokeVmFunction 1 (gives tt))) before after')
run_unpaid e ms before after' h =
    let q : Result (Unit {0}) HostErr = Err e in
    charges_as q (λ (u : Unit {0}). u) (after (paying_pages ms (gives tt)) (λ _. paying InvokeVmFunction 1 (gives tt))) (paying_pages ms (paying InvokeVmFunction 1 (gives tt))) before after'
    (pages_then ms (paying InvokeVmFunction 1 (gives tt)))
    (charges_stop (λ (u : Unit {0}). u) (λ (u : Unit {0}). u) e (paying_pages ms (gives tt)) (λ _. paying InvokeVmFunction 1 (gives tt)) before after' h)

-- ---- uploads

-- the tests of a code, and then the ledger
uploads_is : (env : Env) (code : List ℕ) (w : World) → after (judges code) (λ _. stores (hash_of (sha256 code)) code env) w ≡ uploads env code w
uploads_is env code w = outer (lifted_out w ComputeSha256Hash)
  where
    next : Act Hash
    next = stores (hash_of (sha256 code)) code env

    lifted_out : World → Kind → Out (Unit {0})
    lifted_out v kind = lift (values.charged kind (length code)) v

    test : (b : Bool) (v : World) → then_do (only_where b NO_MODULE (gives (tt {0})) v) (λ _. next) ≡ only_where b NO_MODULE next v
    test true v = refl
    test false v = refl

    inner : (x : Out (Unit {0})) → then_do (then_do x (λ _. only_where (is_some (module_of code)) NO_MODULE (gives (tt {0})))) (λ _. next) ≡ then_do x (λ _. only_where (is_some (module_of code)) NO_MODULE next)
    inner (Good u v) = test (is_some (module_of code)) v
    inner (Bad e v) = refl
    inner (Undeclared a v) = refl

    outer : (x : Out (Unit {0}))
        → then_do (then_do x (λ _. paying VmInstantiation (length code) (only_where (is_some (module_of code)) NO_MODULE (gives (tt {0}))))) (λ _. next)
        ≡ then_do x (λ _. paying VmInstantiation (length code) (only_where (is_some (module_of code)) NO_MODULE next))
    outer (Good u v) = inner (lift (values.charged VmInstantiation (length code)) v)
    outer (Bad e v) = refl
    outer (Undeclared a v) = refl

pub uploaded : (u : Unit {0}) (q : Result Hash HostErr) (code : List ℕ) (hash : Hash) (old new : Stored) (before between after' : Meter) → hash ≡ hash_of (sha256 code)
    → (let r : Result (Unit {0}) HostErr = Ok u in Charges r (λ u. u) (judges code) before between) → Steps q (λ h. h) (stores hash code) old new between after'
    → Steps q (λ h. h) (λ env. uploads env code) old new before after'
uploaded u q code hash old new before between after' is h k =
    steps_as q (λ (h : Hash). h) (λ env. after (judges code) (λ _. stores (hash_of (sha256 code)) code env)) (λ env. uploads env code) old new before after' (λ env serves w. uploads_is env code w)
    (steps_then (λ (u : Unit {0}). u) (λ (h : Hash). h) u q (λ env. judges code) (λ env _. stores (hash_of (sha256 code)) code env) old old new before between after'
    (charges_steps (Ok u) (λ (u : Unit {0}). u) (judges code) old before between h) (λ env serves. serves)
    (subst (λ (x : Hash). Steps q (λ h. h) (stores x code) old new between after') is k))

pub not_uploaded : (e : HostErr) (code : List ℕ) (old : Stored) (before after' : Meter) → (let r : Result (Unit {0}) HostErr = Err e in Charges r (λ u. u) (judges code) before after')
    → (let q : Result Hash HostErr = Err e in Steps q (λ h. h) (λ env. uploads env code) old old before after')
not_uploaded e code old before after' h =
    let q : Result Hash HostErr = Err e in
    steps_as q (λ (h : Hash). h) (λ env. after (judges code) (λ _. stores (hash_of (sha256 code)) code env)) (λ env. uploads env code) old old before after' (λ env serves w. uploads_is env code w)
    (steps_stop (λ (u : Unit {0}). u) (λ (h : Hash). h) e (λ env. judges code) (λ env _. stores (hash_of (sha256 code)) code env) old old before after'
    (charges_steps (Err e) (λ (u : Unit {0}). u) (judges code) old before after' h))

-- ---- modules

-- the act on the module of a code
abbrev pub reads : List ℕ → Act Module
reads code = paying VmInstantiation (length code) (with_module (module_of code) (λ m. gives m))

pub code_read : {A : Type 0} (view : A → List ℕ) (code : A) (q : Result Module HostErr) (hash : Hash) (s t : Stored) (before after' : Meter)
    → (let r : Result A HostErr = Ok code in Accesses r view (λ env. code_at env hash) s t) → IsRead s t → Charges q (λ m. m) (reads (view code)) before after'
    → Steps q (λ m. m) (λ env. after (code_at env hash) reads) s t before after'
code_read view code q hash s t before after' h read k =
    steps_then view (λ (m : Module). m) code q (λ env. code_at env hash) (λ env. reads) s t t before before after'
    (accesses_steps (Ok code) view (λ env. code_at env hash) s t before h) (λ env. serves_later env s t (later_read s t read)) (charges_steps q (λ (m : Module). m) (reads (view code)) t before after' k)

pub code_missing : {A : Type 0} (view : A → List ℕ) (e : StoErr) (x : HostErr) (hash : Hash) (key : LedgerKey) (s t : Stored) (meter : Meter) → x ≡ end_of key e → key ≡ code_key hash
    → (let r : Result A StoErr = Err e in Accesses (named (code_key hash) r) view (λ env. code_at env hash) s t)
    → (let q : Result Module HostErr = Err x in Steps q (λ m. m) (λ env. after (code_at env hash) reads) s t meter meter)
code_missing {A} view e x hash key s t meter is at h =
    let r : Result A HostErr = Err x in
    steps_stop view (λ (m : Module). m) x (λ env. code_at env hash) (λ env. reads) s t meter meter
    (accesses_steps r view (λ env. code_at env hash) s t meter
    (subst (λ (y : HostErr). let r : Result A HostErr = Err y in Accesses r view (λ env. code_at env hash) s t) (sym (is ∙ ap (λ (k : LedgerKey). end_of k e) at)) h))
