-- A put of the storage is an access.
use Rattle.std.proofs.Common.{◌≡◌, ℕ, Bool, true, false, Option, Some, None, Result, Ok, Err, refl, sym, ap, subst, ◌∙◌}
use Rattle.std.specs.Prelude.{if◌then◌else◌}
use Rattle.budget_meter.specs.Meter.{Meter, used_after}
use Rattle.budget_meter.specs.Costs.{IsWithin}
use Rattle.host_frame.proofs.Lemmas.{charged_good, charged_spent}
use Rattle.host_spec.specs.declared.error.HostErr.TheVariants as ends
use Rattle.budget_meter.specs.declared.kind.Kind.TheVariants.{ValSer}
use Rattle.ledger_types.specs.Key.{key_format}
use Rattle.ledger_types.specs.Entry.{key_of, entry_format}
use Rattle.ledger_types.proofs.Lemmas.{key_of_fits}
use Rattle.ledger_types.specs.declared.key.LedgerKey.{LedgerKey}
use Rattle.ledger_types.specs.declared.durability.Durability.{Durability}
use Rattle.value_types.specs.Datum.{Datum}
use Rattle.value_types.specs.declared.hash.Hash.{Hash}
use Rattle.ledger_types.specs.declared.entry.LedgerEntry.{LedgerEntry}
use Rattle.ledger_spec.specs.LedgerMap.{LedgerMap, key_bytes}
use Rattle.ledger_spec.specs.Changes.{put}
use Rattle.host_spec.specs.Answers.{Answer}
use Rattle.host_spec.specs.declared.error.HostErr.{HostErr}
use Rattle.host_frame.specs.Answered.{answer_of}
use Rattle.host_frame.specs.declared.answer.Answer.{Answer as Answer'}
use Rattle.contract_storage.specs.Stored.{Stored, with_touched}
use Rattle.contract_storage.specs.Touched.{admits, noted}
use Rattle.contract_storage.specs.Acts.{Call, Left, Does, left, noting, put_act, changed}
use Rattle.contract_storage.specs.declared.access.Access.TheVariants as kinds
use Rattle.contract_storage.specs.declared.access.StoErr.{StoErr}
use Rattle.contract_storage.specs.declared.access.StoErr.TheVariants as err
use Rattle.call_spec.specs.Errors.{NO_ENTRY}
use Rattle.call_spec.specs.World.{Write, World, Env, made_seq}
use Rattle.call_spec.specs.Acts.{Act, Out, Bad, Archived, Undeclared, fails, with_frame, sets, paying}
use Rattle.call_spec.specs.Keys.{data_key, data_entry}
use Rattle.call_spec.specs.Accesses.{access, access_of, judged, noted as noted', puts, entry_size}
use Rattle.call_spec.specs.Changed.{with_entries, after_put}
use Rattle.call_spec.specs.Outcomes.{Says, quiet}
use Rattle.host_acts.specs.Traced.{Tells, leaving}
use Rattle.call_spec.specs.Rules.{nothing}
use Rattle.call_spec.proofs.Lemmas.{put_law}
use Rattle.host_acts.specs.Served.{Serves}
use Rattle.host_acts.proofs.Linking.{touched_after, same_declared, same_map}
use Rattle.host_acts.proofs.Tracing.{tells_access, tells_still, afterwards}
use Rattle.host_acts.specs.Accessed.{end_of, Pays}

-- how the access ends, given the judge's word and what the put leaves
abbrev at_change : Bool → Option LedgerMap → LedgerEntry → Act Answer
at_change true map entry w = after_put entry nothing map (noted' Write (key_of entry) w)
at_change false map entry w = Undeclared (access_of Write (key_of entry) w) w

-- how the access ends, given what the storage returned and its map then
abbrev at_put : Result (Unit {0}) StoErr → LedgerMap → LedgerEntry → Act Answer
at_put (Ok done) map entry w = paying ValSer (entry_size entry) (sets (with_entries map) nothing) (noted' Write (key_of entry) w)
at_put (Err err.Undeclared) map entry w = Undeclared (access_of Write (key_of entry) w) w
at_put (Err err.Archived) map entry w = Bad (Archived (key_of entry)) (noted' Write (key_of entry) w)
at_put (Err err.Missing) map entry w = fails NO_ENTRY (noted' Write (key_of entry) w)
at_put (Err (err.BadExtend e)) map entry w = fails e (noted' Write (key_of entry) w)
at_put (Err err.NoMemory) map entry w = fails NO_ENTRY w

put_judged : (env : Env) (entry : LedgerEntry) (w : World) (b : Bool)
    → judged b (made_seq env) Write (key_of entry) (puts env entry nothing) w ≡ at_change b (put env.header.settings (made_seq env) w.entries entry) entry w
put_judged env entry w true = put_law env entry nothing (noted' Write (key_of entry) w)
put_judged env entry w false = refl

-- what `put` does, of a key that was judged so, with the map that it leaves
abbrev pub put_done : Bool → Option LedgerMap → LedgerKey → Call (Unit {0})
put_done b map key s = if b then noting kinds.Write key (changed map) s else (Err err.Undeclared, left s)

put_ends : (b : Bool) (map : Option LedgerMap) (entry : LedgerEntry) (s : Stored) (w : World)
    → at_change b map entry w ≡ at_put (put_done b map (key_of entry) s).0 (put_done b map (key_of entry) s).1.0 entry w
put_ends true None entry s w = refl
put_ends true (Some map) entry s w = refl
put_ends false map entry s w = refl

put_is : (env : Env) (entry : LedgerEntry) (s : Stored) (w : World) → Serves env s → key_format.fits (key_of entry) → w.entries ≡ s.map
    → access env Write (key_of entry) (puts env entry nothing) w ≡ at_put (put_act entry s).0 (put_act entry s).1.0 entry w
put_is env entry s w serves fits e =
    put_judged env entry w (env.judge Write (key_bytes (key_of entry)))
    ∙ swap (sym (serves.judge Write (key_of entry) fits)) (sym serves.number) (sym serves.lives)
    ∙ put_ends (admits s.declared kinds.Write (key_of entry)) (put s.lives s.n s.map entry) entry s w
  where
    swap : env.judge Write (key_bytes (key_of entry)) ≡ admits s.declared kinds.Write (key_of entry) → made_seq env ≡ s.n → env.header.settings ≡ s.lives
        → at_change (env.judge Write (key_bytes (key_of entry))) (put env.header.settings (made_seq env) w.entries entry) entry w
        ≡ at_change (admits s.declared kinds.Write (key_of entry)) (put s.lives s.n s.map entry) entry w
    swap j n l = rw (j, n, l) (ap (λ (map : LedgerMap). at_change (admits s.declared kinds.Write (key_of entry)) (put s.lives s.n map entry) entry w) e)

done_touched : (b : Bool) (map : Option LedgerMap) (key : LedgerKey) (s : Stored) → (put_done b map key s).1.1 ≡ touched_after Write key s (put_done b map key s).0
done_touched true None key s = refl
done_touched true (Some map) key s = refl
done_touched false map key s = refl

-- the touched keys after a put, given what it returned
pub put_touched : (r : Result (Unit {0}) StoErr) (entry : LedgerEntry) (s : Stored) (l : Left) → put_act entry s ≡ (r, l) → l.1 ≡ touched_after Write (key_of entry) s r
put_touched r entry s l h =
    sym (ap (λ (p : Result (Unit {0}) StoErr × Left). p.1.1) h) ∙ done_touched (admits s.declared kinds.Write (key_of entry)) (put s.lives s.n s.map entry) (key_of entry) s
    ∙ ap (λ (p : Result (Unit {0}) StoErr × Left). touched_after Write (key_of entry) s p.0) h

-- a put that the storage refuses
pub put_refused : (e : StoErr) (entry : LedgerEntry) (old new : Stored) (meter : Meter) → key_format.fits (key_of entry) → Does (put_act entry) (Err e) old new
    → Pays (Err (end_of (key_of entry) e)) (λ env. access env Write (key_of entry) (puts env entry nothing)) old new meter meter
put_refused e entry old new meter fits h env serves w i j =
    let none : Result Answer' HostErr = Err (end_of (key_of entry) e) in
    subst (λ (out : Out Answer). Says none answer_of out (leaving old new w.trace (λ trace. record w { entries = new.map; trace = trace; meter = meter }))) (sym (put_is env entry old w serves fits i)) (at e h)
  where
    noted_in : (r : Result (Unit {0}) StoErr) → put_act entry old ≡ (r, left new) → touched_after Write (key_of entry) old r ≡ noted old.declared kinds.Write (key_of entry) old.touched → new ≡ with_touched old new.touched
        → Tells old new w.trace (noted' Write (key_of entry) w).trace
    noted_in r h is same = tells_access old new Write (key_of entry) w.meter.used w.trace (same_declared old new same) (put_touched r entry old (left new) h ∙ is)

    at : (e : StoErr) → Does (put_act entry) (Err e) old new
        → (let none : Result Answer' HostErr = Err (end_of (key_of entry) e) in
        Says none answer_of (at_put (put_act entry old).0 (put_act entry old).1.0 entry w) (leaving old new w.trace (λ trace. record w { entries = new.map; trace = trace; meter = meter })))
    at err.Undeclared h =
        rw h.0 (tells_still old new w.trace (same_declared old new h.1) (put_touched (Err err.Undeclared) entry old (left new) h.0), rw (← j) refl, j)
    at err.Archived h = rw h.0 (noted_in (Err err.Archived) h.0 refl h.1, refl, j, refl)
    at err.Missing h = rw h.0 (noted_in (Err err.Missing) h.0 refl h.1, rw (same_map old new h.1, ← i, ← j) refl)
    at (err.BadExtend e) h = rw h.0 (noted_in (Err (err.BadExtend e)) h.0 refl h.1, rw (same_map old new h.1, ← i, ← j) refl)
    at err.NoMemory h = tt

-- a put that the storage makes, whose charge comes after it
pub put_paid : (q : Result Answer' HostErr) (entry : LedgerEntry) (old new : Stored) (before after : Meter) → key_format.fits (key_of entry) → Does (put_act entry) (Ok tt) old new
    → ((w : World) (map : LedgerMap) → w.meter ≡ before
    → Says q answer_of (paying ValSer (entry_size entry) (sets (with_entries map) nothing) w) (quiet w (λ trace. record w { entries = map; trace = trace; meter = after })))
    → Pays q (λ env. access env Write (key_of entry) (puts env entry nothing)) old new before after
put_paid q entry old new before after fits h paid env serves w i j =
    let at : World = noted' Write (key_of entry) w in
    subst (λ (out : Out Answer). Says q answer_of out (leaving old new w.trace (λ trace. record w { entries = new.map; trace = trace; meter = after })))
    (sym (put_is env entry old w serves fits i ∙ ap (λ (p : Result (Unit {0}) StoErr × Left). at_put p.0 p.1.0 entry w) h.0))
    (afterwards q answer_of (paying ValSer (entry_size entry) (sets (with_entries new.map) nothing) at) old new w.trace at (λ trace. record w { entries = new.map; trace = trace; meter = after })
    (tells_access old new Write (key_of entry) w.meter.used w.trace (ap (λ (s : Stored). s.declared) h.1) (put_touched (Ok tt) entry old (left new) h.0)) (paid at new.map j))

-- ---- the charge

pub paid_good : (q : Result Answer' HostErr) (size : ℕ) (before after : Meter) → IsWithin before.limits (used_after before ValSer size) → after ≡ record before { used = used_after before ValSer size }
    → (answer : Answer') → q ≡ Ok answer → answer_of answer ≡ nothing → (w : World) (map : LedgerMap) → w.meter ≡ before
    → Says q answer_of (paying ValSer size (sets (with_entries map) nothing) w) (quiet w (λ trace. record w { entries = map; trace = trace; meter = after }))
paid_good q size before after h e answer is void w map j =
    subst (λ (x : Result Answer' HostErr). Says x answer_of (paying ValSer size (sets (with_entries map) nothing) w) (quiet w (λ trace. record w { entries = map; trace = trace; meter = after }))) (sym is)
    (rw (j, charged_good ValSer size w.frame.shown w.frame.memory before after h e, void) (refl, refl))

pub paid_spent : (q : Result Answer' HostErr) (size : ℕ) (before after : Meter) → (IsWithin before.limits (used_after before ValSer size) → ⊥) → after ≡ before
    → q ≡ Err ends.Spent → (w : World) (map : LedgerMap) → w.meter ≡ before
    → Says q answer_of (paying ValSer size (sets (with_entries map) nothing) w) (quiet w (λ trace. record w { entries = map; trace = trace; meter = after }))
paid_spent q size before after h e is w map j =
    subst (λ (x : Result Answer' HostErr). Says x answer_of (paying ValSer size (sets (with_entries map) nothing) w) (quiet w (λ trace. record w { entries = map; trace = trace; meter = after }))) (sym is)
    (rw (j, charged_spent ValSer size w.frame.shown w.frame.memory before after h e) (refl, refl, refl, refl))

-- ---- the calls of the program

pub put_refused_at : (e : StoErr) (entry : LedgerEntry) (key : LedgerKey) (x : HostErr) (old new : Stored) (meter : Meter) → key ≡ key_of entry → x ≡ end_of key e → entry_format.fits entry
    → Does (put_act entry) (Err e) old new → (let none : Result Answer' HostErr = Err x in Pays none (λ env. access env Write key (puts env entry nothing)) old new meter meter)
put_refused_at e entry key x old new meter k is fits h =
    subst (λ (y : HostErr). let none : Result Answer' HostErr = Err y in Pays none (λ env. access env Write key (puts env entry nothing)) old new meter meter) (sym (is ∙ ap (λ (a : LedgerKey). end_of a e) k))
    (subst (λ (at : LedgerKey). let none : Result Answer' HostErr = Err (end_of (key_of entry) e) in Pays none (λ env. access env Write at (puts env entry nothing)) old new meter meter) (sym k)
    (put_refused e entry old new meter (key_of_fits entry fits) h))

pub put_paid_at : (q : Result Answer' HostErr) (entry : LedgerEntry) (key : LedgerKey) (size : ℕ) (old new : Stored) (before after : Meter) → key ≡ key_of entry → size ≡ entry_size entry → entry_format.fits entry
    → Does (put_act entry) (Ok tt) old new
    → ((w : World) (map : LedgerMap) → w.meter ≡ before
    → Says q answer_of (paying ValSer size (sets (with_entries map) nothing) w) (quiet w (λ trace. record w { entries = map; trace = trace; meter = after })))
    → Pays q (λ env. access env Write key (puts env entry nothing)) old new before after
put_paid_at q entry key size old new before after k sized fits h paid =
    subst (λ (at : LedgerKey). Pays q (λ env. access env Write at (puts env entry nothing)) old new before after) (sym k)
    (put_paid q entry old new before after (key_of_fits entry fits) h
    (λ w map j. subst (λ (n : ℕ). Says q answer_of (paying ValSer n (sets (with_entries map) nothing) w) (quiet w (λ trace. record w { entries = map; trace = trace; meter = after }))) sized (paid w map j)))

-- the frame's put
put_here : (env : Env) (contract : Hash) (key val : Datum) (durability : Durability) (k : LedgerKey) (entry : LedgerEntry) (n : ℕ) (s : Stored) (w : World) → Serves env s → s.n ≡ n
    → k ≡ data_key contract key durability → entry ≡ data_entry n contract key durability val → w.frame.contract ≡ contract
    → with_frame (λ frame. access env Write (data_key frame.contract key durability) (puts env (data_entry (made_seq env) frame.contract key durability val) nothing)) w
    ≡ access env Write k (puts env entry nothing) w
put_here env contract key val durability k entry n s w serves number is made l = rw (is, made, l, ← number, serves.number) refl

pub put_runs : (q : Result Answer' HostErr) (contract : Hash) (key val : Datum) (durability : Durability) (k : LedgerKey) (entry : LedgerEntry) (n : ℕ) (old new : Stored) (before after : Meter) → old.n ≡ n
    → k ≡ data_key contract key durability → entry ≡ data_entry n contract key durability val → Pays q (λ env. access env Write k (puts env entry nothing)) old new before after
    → (env : Env) → Serves env old → (w : World) → w.entries ≡ old.map → w.meter ≡ before → w.frame.contract ≡ contract
    → Says q answer_of (with_frame (λ frame. access env Write (data_key frame.contract key durability) (puts env (data_entry (made_seq env) frame.contract key durability val) nothing)) w)
    (leaving old new w.trace (λ trace. record w { entries = new.map; trace = trace; meter = after }))
put_runs q contract key val durability k entry n old new before after number is made pays env serves w i j l =
    subst (λ (out : Out Answer). Says q answer_of out (leaving old new w.trace (λ trace. record w { entries = new.map; trace = trace; meter = after })))
    (sym (put_here env contract key val durability k entry n old w serves number is made l)) (pays env serves w i j)
