-- Writes of the storage are accesses.
use Rattle.std.proofs.Common.{◌≡◌, ℕ, Bool, true, false, Option, Some, None, Result, Ok, Err, refl, sym, ap, subst, ◌∙◌}
use Rattle.std.specs.Prelude.{IfErr}
use Rattle.budget_meter.specs.Meter.{Meter}
use Rattle.budget_meter.specs.declared.kind.Kind.TheVariants.{ValSer}
use Rattle.ledger_types.specs.Entry.{key_of, entry_format}
use Rattle.ledger_types.specs.Key.{key_format}
use Rattle.ledger_types.proofs.Lemmas.{key_of_fits}
use Rattle.ledger_types.specs.declared.key.LedgerKey.{LedgerKey}
use Rattle.ledger_types.specs.declared.entry.LedgerEntry.{LedgerEntry}
use Rattle.ledger_spec.specs.LedgerMap.{LedgerMap, key_bytes}
use Rattle.ledger_spec.specs.Seen.{Seen, live, absent, archived, seen}
use Rattle.ledger_spec.specs.declared.Kept.{Kept}
use Rattle.ledger_spec.specs.Changes.{put}
use Rattle.host_spec.specs.Acts as values
use Rattle.host_spec.specs.declared.error.HostErr.{HostErr}
use Rattle.host_spec.specs.declared.error.HostErr.TheVariants as ends
use Rattle.contract_storage.specs.Stored.{Stored, IsRead}
use Rattle.contract_storage.specs.Touched.{admits, noted as noted'}
use Rattle.contract_storage.specs.Acts.{Left, Does, left, put_act}
use Rattle.contract_storage.specs.declared.access.Access.TheVariants as kinds
use Rattle.contract_storage.specs.declared.access.StoErr.{StoErr}
use Rattle.contract_storage.specs.declared.access.StoErr.TheVariants as err
use Rattle.call_spec.specs.Errors.{NO_ENTRY}
use Rattle.call_spec.specs.World.{Write, World, Env, made_seq}
use Rattle.call_spec.specs.Acts.{Act, Out, Bad, Archived, Undeclared, after, then_do, gives, fails, sets, paying, lift}
use Rattle.call_spec.specs.Accesses.{leaves, costs, access, access_of, by_seen, judged, noted, puts, put_kept, effected, entry_size}
use Rattle.call_spec.specs.Changed.{with_entries, after_put}
use Rattle.call_spec.specs.Outcomes.{quiet, Says}
use Rattle.host_ledger.specs.Traced.{Tells, leaving}
use Rattle.call_spec.proofs.Lemmas.{put_law}
use Rattle.host_ledger.specs.Worlds.{Serves}
use Rattle.host_ledger.proofs.Lemmas.{afterwards, put_done, put_touched, same_declared, same_map, tells_access, tells_still, touched_after}
use Rattle.host_ledger.specs.Accessed.{end_of}
use Rattle.call_parts.specs.Steps.{Steps, Charges}
use Rattle.call_parts.proofs.Joining.{stops, goes, then_assoc}

-- ---- a charge before a change of the entries

-- a charge, after which the entries are set
pub paid_set : (q : Result (Unit {0}) HostErr) (size : ℕ) (before after' : Meter) → Charges q (λ u. u) (lift (values.charged ValSer size)) before after' → IfErr q (λ e. e ≡ ends.Spent)
    → (w : World) (map : LedgerMap) → w.meter ≡ before
    → Says q (λ u. u) (paying ValSer size (sets (with_entries map) tt) w) (quiet w (λ trace. record w { entries = map; trace = trace; meter = after' }))
paid_set (Ok u) size before after' h spent w map j =
    goes (λ (v : Unit {0}). v) (λ (v : Unit {0}). v) u (Ok u) (lift (values.charged ValSer size) w) (λ _. sets (with_entries map) tt) (quiet w (λ trace. record w { meter = after' }))
    (quiet w (λ trace. record w { entries = map; trace = trace; meter = after' })) (h w j) (λ t told. (refl, refl))
paid_set (Err e) size before after' h spent w map j = ended e spent (h w j)
  where
    ended : (e : HostErr) → e ≡ ends.Spent → (let r : Result (Unit {0}) HostErr = Err e in Says r (λ v. v) (lift (values.charged ValSer size) w) (quiet w (λ trace. record w { meter = after' })))
        → (let r : Result (Unit {0}) HostErr = Err e in Says r (λ v. v) (paying ValSer size (sets (with_entries map) tt) w) (quiet w (λ trace. record w { entries = map; trace = trace; meter = after' })))
    ended ends.Spent k h =
        stops (λ (v : Unit {0}). v) (λ (v : Unit {0}). v) ends.Spent (lift (values.charged ValSer size) w) (λ _. sets (with_entries map) tt) (quiet w (λ trace. record w { entries = map; trace = trace; meter = after' })) h
    ended (ends.Failed x) k h = absurd cc
    ended (ends.Undeclared x) k h = absurd cc
    ended (ends.Archived x) k h = absurd cc
    ended ends.NoMemory k h = tt

-- ---- puts

-- how the access ends, given the judge's word and what the put leaves
abbrev at_change : Bool → Option LedgerMap → LedgerEntry → Act (Unit {0})
at_change true map entry w = after_put entry tt map (noted Write (key_of entry) w)
at_change false map entry w = Undeclared (access_of Write (key_of entry) w) w

-- how the access ends, given what the storage returned and its map then
abbrev at_put : Result (Unit {0}) StoErr → LedgerMap → LedgerEntry → Act (Unit {0})
at_put (Ok done) map entry w = paying ValSer (entry_size entry) (sets (with_entries map) tt) (noted Write (key_of entry) w)
at_put (Err err.Undeclared) map entry w = Undeclared (access_of Write (key_of entry) w) w
at_put (Err err.Archived) map entry w = Bad (Archived (key_of entry)) (noted Write (key_of entry) w)
at_put (Err err.Missing) map entry w = fails NO_ENTRY (noted Write (key_of entry) w)
at_put (Err (err.BadExtend e)) map entry w = fails e (noted Write (key_of entry) w)
at_put (Err err.NoMemory) map entry w = fails NO_ENTRY w

put_judged : (env : Env) (entry : LedgerEntry) (w : World) (b : Bool)
    → judged b (made_seq env) Write (key_of entry) (puts env entry tt) w ≡ at_change b (put env.header.settings (made_seq env) w.entries entry) entry w
put_judged env entry w true = put_law env entry tt (noted Write (key_of entry) w)
put_judged env entry w false = refl

put_ends : (b : Bool) (map : Option LedgerMap) (entry : LedgerEntry) (s : Stored) (w : World)
    → at_change b map entry w ≡ at_put (put_done b map (key_of entry) s).0 (put_done b map (key_of entry) s).1.0 entry w
put_ends true None entry s w = refl
put_ends true (Some map) entry s w = refl
put_ends false map entry s w = refl

put_is : (env : Env) (entry : LedgerEntry) (s : Stored) (w : World) → Serves env s → key_format.fits (key_of entry) → w.entries ≡ s.map
    → access env Write (key_of entry) (puts env entry tt) w ≡ at_put (put_act entry s).0 (put_act entry s).1.0 entry w
put_is env entry s w serves fits e =
    put_judged env entry w (env.judge Write (key_bytes (key_of entry)))
    ∙ swap (sym (serves.judge Write (key_of entry) fits)) (sym serves.number) (sym serves.lives)
    ∙ put_ends (admits s.declared kinds.Write (key_of entry)) (put s.lives s.n s.map entry) entry s w
  where
    swap : env.judge Write (key_bytes (key_of entry)) ≡ admits s.declared kinds.Write (key_of entry) → made_seq env ≡ s.n → env.header.settings ≡ s.lives
        → at_change (env.judge Write (key_bytes (key_of entry))) (put env.header.settings (made_seq env) w.entries entry) entry w
        ≡ at_change (admits s.declared kinds.Write (key_of entry)) (put s.lives s.n s.map entry) entry w
    swap j n l = rw (j, n, l) (ap (λ (map : LedgerMap). at_change (admits s.declared kinds.Write (key_of entry)) (put s.lives s.n map entry) entry w) e)

-- a put that the storage refuses
pub put_refused : (e : StoErr) (x : HostErr) (key : LedgerKey) (entry : LedgerEntry) (old new : Stored) (meter : Meter) → key ≡ key_of entry → x ≡ end_of key e → entry_format.fits entry
    → Does (put_act entry) (Err e) old new → (let q : Result (Unit {0}) HostErr = Err x in Steps q (λ u. u) (λ env. access env Write key (puts env entry tt)) old new meter meter)
put_refused e x key entry old new meter k is fits h =
    subst (λ (y : HostErr). let q : Result (Unit {0}) HostErr = Err y in Steps q (λ u. u) (λ env. access env Write key (puts env entry tt)) old new meter meter) (sym (is ∙ ap (λ (a : LedgerKey). end_of a e) k))
    (subst (λ (at : LedgerKey). let q : Result (Unit {0}) HostErr = Err (end_of (key_of entry) e) in Steps q (λ u. u) (λ env. access env Write at (puts env entry tt)) old new meter meter) (sym k)
    (λ env serves w i j.
    let q : Result (Unit {0}) HostErr = Err (end_of (key_of entry) e) in
    subst (λ (out : Out (Unit {0})). Says q (λ u. u) out (leaving old new w.trace (λ trace. record w { entries = new.map; trace = trace; meter = meter }))) (sym (put_is env entry old w serves (key_of_fits entry fits) i)) (at w i j e h)))
  where
    noted_in : (r : Result (Unit {0}) StoErr) (w : World) → put_act entry old ≡ (r, left new) → touched_after Write (key_of entry) old r ≡ noted' old.declared kinds.Write (key_of entry) old.touched → IsRead old new
        → Tells old new w.trace (noted Write (key_of entry) w).trace
    noted_in r w h is same = tells_access old new Write (key_of entry) w.meter.used w.trace (same_declared old new same) (put_touched r entry old (left new) h ∙ is)

    at : (w : World) → w.entries ≡ old.map → w.meter ≡ meter → (e : StoErr) → Does (put_act entry) (Err e) old new
        → (let q : Result (Unit {0}) HostErr = Err (end_of (key_of entry) e) in
        Says q (λ u. u) (at_put (put_act entry old).0 (put_act entry old).1.0 entry w) (leaving old new w.trace (λ trace. record w { entries = new.map; trace = trace; meter = meter })))
    at w i j err.Undeclared h =
        rw h.0 (tells_still old new w.trace (same_declared old new h.1) (put_touched (Err err.Undeclared) entry old (left new) h.0), rw (← j) refl, j)
    at w i j err.Archived h = rw h.0 (noted_in (Err err.Archived) w h.0 refl h.1, refl, j, refl)
    at w i j err.Missing h = rw h.0 (noted_in (Err err.Missing) w h.0 refl h.1, rw (same_map old new h.1, ← i, ← j) refl)
    at w i j (err.BadExtend e) h = rw h.0 (noted_in (Err (err.BadExtend e)) w h.0 refl h.1, rw (same_map old new h.1, ← i, ← j) refl)
    at w i j err.NoMemory h = tt

-- a put that the storage makes, whose charge comes after it
pub put_paid : (q : Result (Unit {0}) HostErr) (key : LedgerKey) (entry : LedgerEntry) (size : ℕ) (old new : Stored) (before after' : Meter) → key ≡ key_of entry → size ≡ entry_size entry → entry_format.fits entry
    → Does (put_act entry) (Ok tt) old new → Charges q (λ u. u) (lift (values.charged ValSer size)) before after' → IfErr q (λ e. e ≡ ends.Spent)
    → Steps q (λ u. u) (λ env. access env Write key (puts env entry tt)) old new before after'
put_paid q key entry size old new before after' k sized fits h paid spent env serves w i j =
    let at : World = noted Write (key_of entry) w in
    subst (λ (at : LedgerKey). Says q (λ u. u) (access env Write at (puts env entry tt) w) (leaving old new w.trace (λ trace. record w { entries = new.map; trace = trace; meter = after' }))) (sym k)
    (subst (λ (out : Out (Unit {0})). Says q (λ u. u) out (leaving old new w.trace (λ trace. record w { entries = new.map; trace = trace; meter = after' })))
    (sym (put_is env entry old w serves (key_of_fits entry fits) i ∙ ap (λ (p : Result (Unit {0}) StoErr × Left). at_put p.0 p.1.0 entry w) h.0))
    (subst (λ (n : ℕ). Says q (λ u. u) (paying ValSer n (sets (with_entries new.map) tt) at) (leaving old new w.trace (λ trace. record w { entries = new.map; trace = trace; meter = after' }))) sized
    (afterwards q (λ (u : Unit {0}). u) (paying ValSer size (sets (with_entries new.map) tt) at) old new w.trace at (λ trace. record w { entries = new.map; trace = trace; meter = after' })
    (tells_access old new Write (key_of entry) w.meter.used w.trace (ap (λ (s : Stored). s.declared) h.1) (put_touched (Ok tt) entry old (left new) h.0)) (paid_set q size before after' paid spent at new.map j))))

-- ---- a put that returns something else

paid_as : {A : Type 0} (key : LedgerKey) (size : ℕ) (now : Option Kept) (a : A) (w : World)
    → effected key (costs ValSer size (leaves now a)) w ≡ then_do (effected key (costs ValSer size (leaves now (tt {0}))) w) (λ _. gives a)
paid_as key size now a w = sym (then_assoc (lift (values.charged ValSer size) w) (λ _. effected key (leaves now (tt {0}))) (λ _. gives a))

seen_as : {A : Type 0} (env : Env) (key : LedgerKey) (entry : LedgerEntry) (a : A) (o : Seen) (w : World)
    → by_seen key (puts env entry a) o w ≡ then_do (by_seen key (puts env entry (tt {0})) o w) (λ _. gives a)
seen_as env key entry a (live kept) w = paid_as key (entry_size entry) (Some (put_kept env.header.settings (made_seq env) entry (Some kept))) a w
seen_as env key entry a absent w = paid_as key (entry_size entry) (Some (put_kept env.header.settings (made_seq env) entry None)) a w
seen_as env key entry a archived w = refl

-- a put that returns a value is a put, and then the value
pub puts_as : {A : Type 0} (env : Env) (key : LedgerKey) (entry : LedgerEntry) (a : A) (w : World)
    → after (access env Write key (puts env entry (tt {0}))) (λ _. gives a) w ≡ access env Write key (puts env entry a) w
puts_as env key entry a w = at (env.judge Write (key_bytes key))
  where
    at : (b : Bool) → then_do (judged b (made_seq env) Write key (puts env entry (tt {0})) w) (λ _. gives a) ≡ judged b (made_seq env) Write key (puts env entry a) w
    at true = sym (seen_as env key entry a (seen (made_seq env) w.entries key) (noted Write key w))
    at false = refl
