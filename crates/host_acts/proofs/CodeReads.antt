-- Reads of a code.
use Rattle.std.proofs.Common.{◌≡◌, ℕ, List, Bool, true, false, Result, Ok, Err, refl, sym, ap, subst, ◌∙◌}
use Rattle.std.specs.Prelude.{if◌then◌else◌}
use Rattle.value_types.specs.declared.hash.Hash.{Hash}
use Rattle.ledger_types.specs.Key.{key_format}
use Rattle.ledger_types.specs.declared.key.LedgerKey.{LedgerKey}
use Rattle.ledger_types.specs.declared.entry.LedgerEntry.{LedgerEntry}
use Rattle.ledger_spec.specs.LedgerMap.{LedgerMap}
use Rattle.ledger_spec.specs.Seen.{Seen, live, absent, archived, seen}
use Rattle.host_spec.specs.declared.error.HostErr.{HostErr}
use Rattle.contract_storage.specs.Stored.{Stored}
use Rattle.contract_storage.specs.Touched.{admits}
use Rattle.contract_storage.specs.Acts.{Left, Reads, get_act, got}
use Rattle.contract_storage.specs.declared.access.Access.TheVariants as accesses
use Rattle.contract_storage.specs.declared.access.StoErr.{StoErr}
use Rattle.contract_storage.specs.declared.access.StoErr.TheVariants as err
use Rattle.call_spec.specs.Errors.{NO_ENTRY}
use Rattle.call_spec.specs.World.{Read, World, Env}
use Rattle.call_spec.specs.Acts.{Act, Out, Bad, Archived, Undeclared, fails}
use Rattle.call_spec.specs.Accesses.{access, access_of, effected, noted}
use Rattle.call_spec.specs.Found.{code_at, code_of_data, finds_code}
use Rattle.call_spec.specs.Keys.{code_key}
use Rattle.call_spec.specs.Outcomes.{quiet, Says}
use Rattle.host_acts.specs.Traced.{leaving}
use Rattle.host_acts.specs.Served.{Serves}
use Rattle.host_acts.specs.Accessed.{end_of, named, Accesses}
use Rattle.host_acts.proofs.Linking.{decided, access_is, got_of, got_tells, refused_still, noted_still, same_map}
use Rattle.host_acts.proofs.Tracing.{afterwards}

-- how the access ends, given what the storage returned; None is no end of it
abbrev at_code : Result LedgerEntry StoErr → LedgerKey → Act (List ℕ)
at_code (Ok entry) key w = effected key (code_of_data entry.data) (noted Read key w)
at_code (Err err.Undeclared) key w = Undeclared (access_of Read key w) w
at_code (Err err.Archived) key w = Bad (Archived key) (noted Read key w)
at_code (Err err.Missing) key w = fails NO_ENTRY (noted Read key w)
at_code (Err (err.BadExtend e)) key w = fails e (noted Read key w)
at_code (Err err.NoMemory) key w = fails NO_ENTRY w

code_decided : (a : Bool) (o : Seen) (key : LedgerKey) (w : World) → decided a o Read key finds_code w ≡ at_code (if a then got o else Err err.Undeclared) key w
code_decided true (live kept) key w = refl
code_decided true absent key w = refl
code_decided true archived key w = refl
code_decided false o key w = refl

code_is : (key : LedgerKey) (s : Stored) → key_format.fits key → (env : Env) → Serves env s → (w : World) → w.entries ≡ s.map → access env Read key finds_code w ≡ at_code (get_act key s).0 key w
code_is key s fits env serves w e =
    access_is env s Read key finds_code w serves fits e ∙ code_decided (admits s.declared accesses.Read key) (seen s.n s.map key) key w
    ∙ ap (λ (q : Result LedgerEntry StoErr). at_code q key w) (got_of (admits s.declared accesses.Read key) (seen s.n s.map key) key s)

-- a read that the storage refuses
code_refused_at : {A : Type 0} (view : A → List ℕ) (e : StoErr) (hash : Hash) (key : LedgerKey) (old new : Stored) → key ≡ code_key hash → key_format.fits key
    → (let none : Result LedgerEntry StoErr = Err e in Reads (get_act key) none old new) → let none : Result A HostErr = Err (end_of key e) in Accesses none view (λ env. code_at env hash) old new
code_refused_at {A} view e hash key old new is fits h env serves w i =
    let none : Result A HostErr = Err (end_of key e) in
    subst (λ (out : Out (List ℕ)). Says none view out (leaving old new w.trace (λ trace. record w { entries = new.map; trace = trace })))
    (sym (ap (λ (k : LedgerKey). access env Read k finds_code w) (sym is) ∙ code_is key old fits env serves w i)) (at e h)
  where
    at : (e : StoErr) → (let none : Result LedgerEntry StoErr = Err e in Reads (get_act key) none old new)
        → (let none : Result A HostErr = Err (end_of key e) in Says none view (at_code (get_act key old).0 key w) (leaving old new w.trace (λ trace. record w { entries = new.map; trace = trace })))
    at err.Undeclared h = rw h.0 (refused_still key old new w.trace h, refl, refl)
    at err.Archived h = rw h.0 (noted_still err.Archived key old new w h.0 refl h.1, refl, refl, refl)
    at err.Missing h = rw h.0 (noted_still err.Missing key old new w h.0 refl h.1, rw (same_map old new h.1, ← i) refl)
    at (err.BadExtend e) h = rw h.0 (noted_still (err.BadExtend e) key old new w h.0 refl h.1, rw (same_map old new h.1, ← i) refl)
    at err.NoMemory h = tt

pub code_refused : {A : Type 0} (view : A → List ℕ) (e : StoErr) (hash : Hash) (key : LedgerKey) (old new : Stored) → key ≡ code_key hash → key_format.fits key
    → (let none : Result LedgerEntry StoErr = Err e in Reads (get_act key) none old new) → let none : Result A HostErr = Err (end_of (code_key hash) e) in Accesses none view (λ env. code_at env hash) old new
code_refused {A} view e hash key old new is fits h =
    subst (λ (k : LedgerKey). let none : Result A HostErr = Err (end_of k e) in Accesses none view (λ env. code_at env hash) old new) is (code_refused_at view e hash key old new is fits h)

-- a read that finds a live entry
code_found_at : {A : Type 0} (view : A → List ℕ) (q : Result A HostErr) (entry : LedgerEntry) (hash : Hash) (key : LedgerKey) (old new : Stored) → key ≡ code_key hash → key_format.fits key
    → (let found : Result LedgerEntry StoErr = Ok entry in Reads (get_act key) found old new)
    → ((w : World) → Says q view (effected key (code_of_data entry.data) w) (quiet w (λ trace. record w { trace = trace })))
    → Accesses q view (λ env. code_at env hash) old new
code_found_at view q entry hash key old new is fits h opened env serves w i =
    let at : World = noted Read key w in
    subst (λ (out : Out (List ℕ)). Says q view out (leaving old new w.trace (λ trace. record w { entries = new.map; trace = trace })))
    (sym (ap (λ (k : LedgerKey). access env Read k finds_code w) (sym is) ∙ code_is key old fits env serves w i ∙ ap (λ (p : Result LedgerEntry StoErr × Left). at_code p.0 key w) h.0))
    (subst (λ (x : LedgerMap). Says q view (effected key (code_of_data entry.data) at) (leaving old new w.trace (λ trace. record w { entries = x; trace = trace }))) (i ∙ sym (same_map old new h.1))
    (afterwards q view (effected key (code_of_data entry.data) at) old new w.trace at (λ trace. record w { trace = trace }) (got_tells entry key old new w h) (opened at)))

pub code_found : {A : Type 0} (view : A → List ℕ) (r : Result A StoErr) (entry : LedgerEntry) (hash : Hash) (key : LedgerKey) (old new : Stored) → key ≡ code_key hash → key_format.fits key
    → (let found : Result LedgerEntry StoErr = Ok entry in Reads (get_act key) found old new)
    → ((k : LedgerKey) (w : World) → Says (named k r) view (effected k (code_of_data entry.data) w) (quiet w (λ trace. record w { trace = trace })))
    → Accesses (named (code_key hash) r) view (λ env. code_at env hash) old new
code_found view r entry hash key old new is fits h opened =
    subst (λ (k : LedgerKey). Accesses (named k r) view (λ env. code_at env hash) old new) is (code_found_at view (named key r) entry hash key old new is fits h (opened key))
