-- A make of the storage is an access.
use Rattle.std.proofs.Common.{◌≡◌, ℕ, Bool, true, false, Option, Some, None, Result, Ok, Err, refl, sym, ap, subst, ◌∙◌}
use Rattle.std.specs.Prelude.{if◌then◌else◌, IfErr}
use Rattle.budget_meter.specs.Meter.{Meter}
use Rattle.budget_meter.specs.declared.kind.Kind.TheVariants.{ValSer}
use Rattle.value_types.specs.declared.hash.Hash.{Hash}
use Rattle.value_types.specs.declared.error.ScError.{ScError}
use Rattle.ledger_types.specs.Entry.{key_of, entry_format}
use Rattle.ledger_types.specs.Key.{key_format}
use Rattle.ledger_types.proofs.Lemmas.{key_of_fits}
use Rattle.ledger_types.specs.declared.key.LedgerKey.{LedgerKey}
use Rattle.ledger_types.specs.declared.entry.LedgerEntry.{LedgerEntry}
use Rattle.ledger_types.specs.declared.header.Settings.{Settings}
use Rattle.ledger_spec.specs.LedgerMap.{LedgerMap, key_bytes}
use Rattle.ledger_spec.specs.Seen.{Seen, live, absent, archived, seen}
use Rattle.ledger_spec.specs.Changes.{first_life, make, make_seen, written}
use Rattle.ledger_spec.specs.declared.Kept.{Kept}
use Rattle.stage_runs.specs.Maps.{set_at}
use Rattle.host_spec.specs.Acts as values
use Rattle.host_spec.specs.declared.error.HostErr.{HostErr}
use Rattle.host_spec.specs.declared.error.HostErr.TheVariants as ends
use Rattle.contract_storage.specs.Stored.{Stored, IsRead}
use Rattle.contract_storage.specs.Touched.{admits, noted as noted'}
use Rattle.contract_storage.specs.Acts.{Call, Left, Does, left, noting, make_act, made}
use Rattle.contract_storage.specs.declared.access.Access.TheVariants as kinds
use Rattle.contract_storage.specs.declared.access.StoErr.{StoErr}
use Rattle.contract_storage.specs.declared.access.StoErr.TheVariants as err
use Rattle.call_spec.specs.Errors.{NO_ENTRY, EXISTS}
use Rattle.call_spec.specs.World.{Write, World, Env, made_seq}
use Rattle.call_spec.specs.Acts.{Act, Out, Good, Bad, Archived, Undeclared, then_do, fails, sets, paying, lift, lifted, state_of}
use Rattle.call_spec.specs.Accesses.{Effect, leaves, refuses, costs, access, access_of, effected, by_seen, judged, noted, entry_size}
use Rattle.call_spec.specs.Keys.{instance_entry}
use Rattle.call_spec.specs.Creating.{new_instance, makes_instance}
use Rattle.call_spec.specs.Changed.{with_entries}
use Rattle.call_spec.specs.Outcomes.{Says}
use Rattle.host_ledger.specs.Traced.{Tells, leaving}
use Rattle.host_ledger.specs.Worlds.{Serves}
use Rattle.host_ledger.specs.Accessed.{end_of}
use Rattle.host_ledger.proofs.Lemmas.{afterwards, same_declared, same_map, tells_access, tells_still, touched_after}
use Rattle.call_parts.specs.Steps.{Steps, Charges}
use Rattle.call_parts.proofs.Writing.{paid_set}

-- An effect that makes an entry in ledger n, which lives until another ledger. Its charge comes first. If an entry is there, it is refused.
pub record Makes (effect : Option Kept → Effect (Unit {0})) (error : ScError) (n : ℕ) (entry : LedgerEntry) (life : ℕ) : Type 0 where
  pub there : (kept : Kept) → effect (Some kept) ≡ refuses error
  pub none : effect None ≡ costs ValSer (entry_size entry) (leaves (Some (record { entry = written n entry; live_until = life })) tt)

-- a charge leaves the entries
set_paid : (w : World) (s : values.Out (Unit {0})) (key : LedgerKey) (now : Option Kept)
    → then_do (lifted w s) (λ _ u. Good (tt {0}) (record u { entries = set_at u.entries key now })) ≡ then_do (lifted w s) (λ _ u. Good (tt {0}) (record u { entries = set_at w.entries key now }))
set_paid w (values.Good b st) key now = refl
set_paid w (values.Failed e st) key now = refl
set_paid w (values.Spent st) key now = refl

-- what the make of an entry leaves
abbrev after_make : ScError → LedgerEntry → Option (Bool × LedgerMap) → Act (Unit {0})
after_make error entry None = λ w. Bad (Archived (key_of entry)) w
after_make error entry (Some (false, map)) = fails error
after_make error entry (Some (true, map)) = paying ValSer (entry_size entry) (sets (with_entries map) tt)

-- how the access ends, given the judge's word and what the make leaves
abbrev at_change : ScError → Bool → Option (Bool × LedgerMap) → LedgerEntry → Act (Unit {0})
at_change error true m entry w = after_make error entry m (noted Write (key_of entry) w)
at_change error false m entry w = Undeclared (access_of Write (key_of entry) w) w

-- how the access ends, given what the storage returned and its map then; some of these are no end of it
abbrev at_make : ScError → Result Bool StoErr → LedgerMap → LedgerEntry → Act (Unit {0})
at_make error (Ok true) map entry w = paying ValSer (entry_size entry) (sets (with_entries map) tt) (noted Write (key_of entry) w)
at_make error (Ok false) map entry w = fails error (noted Write (key_of entry) w)
at_make error (Err err.Undeclared) map entry w = Undeclared (access_of Write (key_of entry) w) w
at_make error (Err err.Archived) map entry w = Bad (Archived (key_of entry)) (noted Write (key_of entry) w)
at_make error (Err err.Missing) map entry w = fails NO_ENTRY (noted Write (key_of entry) w)
at_make error (Err (err.BadExtend e)) map entry w = fails e (noted Write (key_of entry) w)
at_make error (Err err.NoMemory) map entry w = fails NO_ENTRY w

-- what `make` does, of a key that was judged so, with the map that it leaves
abbrev make_done : Bool → Option (Bool × LedgerMap) → LedgerKey → Call Bool
make_done b m key s = if b then noting kinds.Write key (made m) s else (Err err.Undeclared, left s)

made_ends : (error : ScError) (b : Bool) (m : Option (Bool × LedgerMap)) (entry : LedgerEntry) (s : Stored) (w : World)
    → at_change error b m entry w ≡ at_make error (make_done b m (key_of entry) s).0 (make_done b m (key_of entry) s).1.0 entry w
made_ends error true None entry s w = refl
made_ends error true (Some (true, map)) entry s w = refl
made_ends error true (Some (false, map)) entry s w = refl
made_ends error false m entry s w = refl

done_touched : (b : Bool) (m : Option (Bool × LedgerMap)) (key : LedgerKey) (s : Stored) → (make_done b m key s).1.1 ≡ touched_after Write key s (make_done b m key s).0
done_touched true None key s = refl
done_touched true (Some m) key s = refl
done_touched false m key s = refl

-- the touched keys after a make, given what it returned
made_touched : (r : Result Bool StoErr) (entry : LedgerEntry) (life : ℕ) (s : Stored) (l : Left) → make_act entry life s ≡ (r, l) → l.1 ≡ touched_after Write (key_of entry) s r
made_touched r entry life s l h =
    sym (ap (λ (p : Result Bool StoErr × Left). p.1.1) h) ∙ done_touched (admits s.declared kinds.Write (key_of entry)) (make s.n s.map entry life) (key_of entry) s
    ∙ ap (λ (p : Result Bool StoErr × Left). touched_after Write (key_of entry) s p.0) h

-- a make that is false leaves the map
unmade : (b : Bool) (o : Seen) (n : ℕ) (entry : LedgerEntry) (life : ℕ) (s : Stored) (l : Left) → make_done b (make_seen o n s.map entry life) (key_of entry) s ≡ (Ok false, l) → s.map ≡ l.0
unmade true (live kept) n entry life s l h = ap (λ (p : Result Bool StoErr × Left). p.1.0) h
unmade true absent n entry life s l h = absurd (let e = ap (λ (p : Result Bool StoErr × Left). p.0) h in cc)
unmade true archived n entry life s l h = absurd (let e = ap (λ (p : Result Bool StoErr × Left). p.0) h in cc)
unmade false o n entry life s l h = absurd (let e = ap (λ (p : Result Bool StoErr × Left). p.0) h in cc)

seen_is : (effect : Option Kept → Effect (Unit {0})) (error : ScError) (n : ℕ) (entry : LedgerEntry) (life : ℕ) → Makes effect error n entry life → (o : Seen) (w : World)
    → by_seen (key_of entry) effect o w ≡ after_make error entry (make_seen o n w.entries entry life) w
seen_is effect error n entry life h (live kept) w = ap (λ (x : Effect (Unit {0})). effected (key_of entry) x w) (h.there kept)
seen_is effect error n entry life h absent w =
    ap (λ (x : Effect (Unit {0})). effected (key_of entry) x w) h.none
    ∙ set_paid w (values.charged ValSer (entry_size entry) (state_of w)) (key_of entry) (Some (record { entry = written n entry; live_until = life }))
seen_is effect error n entry life h archived w = refl

judged_is : (effect : Option Kept → Effect (Unit {0})) (error : ScError) (n : ℕ) (entry : LedgerEntry) (life : ℕ) → Makes effect error n entry life → (b : Bool) (w : World)
    → judged b n Write (key_of entry) effect w ≡ at_change error b (make n w.entries entry life) entry w
judged_is effect error n entry life h true w = seen_is effect error n entry life h (seen n w.entries (key_of entry)) (noted Write (key_of entry) w)
judged_is effect error n entry life h false w = refl

at_same : (error : ScError) (entry : LedgerEntry) (life : ℕ) (b c : Bool) (n m : ℕ) (map entries : LedgerMap) (w : World) → b ≡ c → n ≡ m → map ≡ entries
    → at_change error b (make n map entry life) entry w ≡ at_change error c (make m entries entry life) entry w
at_same error entry life b c n m map entries w h i j = rw (h, i, j) refl

-- the access, given what the storage returned and its map then
make_is : (effect : Option Kept → Effect (Unit {0})) (error : ScError) (entry : LedgerEntry) (life : ℕ) (env : Env) (s : Stored) (w : World) → Makes effect error (made_seq env) entry life → Serves env s
    → key_format.fits (key_of entry) → w.entries ≡ s.map → access env Write (key_of entry) effect w ≡ at_make error (make_act entry life s).0 (make_act entry life s).1.0 entry w
make_is effect error entry life env s w makes serves fits e =
    judged_is effect error (made_seq env) entry life makes (env.judge Write (key_bytes (key_of entry))) w
    ∙ at_same error entry life (env.judge Write (key_bytes (key_of entry))) (admits s.declared kinds.Write (key_of entry)) (made_seq env) s.n w.entries s.map w
    (sym (serves.judge Write (key_of entry) fits)) (sym serves.number) e
    ∙ made_ends error (admits s.declared kinds.Write (key_of entry)) (make s.n s.map entry life) entry s w

-- in each environment that a storage serves, these effects make an entry
abbrev pub AllMake : (Env → Option Kept → Effect (Unit {0})) → ScError → LedgerEntry → ℕ → Stored → Type 0
AllMake effect error entry life s = (env : Env) → Serves env s → Makes (effect env) error (made_seq env) entry life

module _ (effect : Env → Option Kept → Effect (Unit {0})) (error : ScError) (entry : LedgerEntry) (life : ℕ) where
  -- an entry that the storage makes, whose charge comes after it
  made_paid : (q : Result (Unit {0}) HostErr) (size : ℕ) (old new : Stored) (before after' : Meter) → AllMake effect error entry life old → size ≡ entry_size entry → entry_format.fits entry
      → Does (make_act entry life) (Ok true) old new → Charges q (λ u. u) (lift (values.charged ValSer size)) before after' → IfErr q (λ e. e ≡ ends.Spent)
      → Steps q (λ u. u) (λ env. access env Write (key_of entry) (effect env)) old new before after'
  made_paid q size old new before after' makes sized fits h paid spent env serves w i j =
      let at : World = noted Write (key_of entry) w in
      subst (λ (out : Out (Unit {0})). Says q (λ u. u) out (leaving old new w.trace (λ trace. record w { entries = new.map; trace = trace; meter = after' })))
      (sym (make_is (effect env) error entry life env old w (makes env serves) serves (key_of_fits entry fits) i ∙ ap (λ (p : Result Bool StoErr × Left). at_make error p.0 p.1.0 entry w) h.0))
      (subst (λ (n : ℕ). Says q (λ u. u) (paying ValSer n (sets (with_entries new.map) tt) at) (leaving old new w.trace (λ trace. record w { entries = new.map; trace = trace; meter = after' }))) sized
      (afterwards q (λ (u : Unit {0}). u) (paying ValSer size (sets (with_entries new.map) tt) at) old new w.trace at (λ trace. record w { entries = new.map; trace = trace; meter = after' })
      (tells_access old new Write (key_of entry) w.meter.used w.trace (ap (λ (s : Stored). s.declared) h.1) (made_touched (Ok true) entry life old (left new) h.0)) (paid_set q size before after' paid spent at new.map j)))

  pub make_paid : (b : Bool) (q : Result (Unit {0}) HostErr) (key : LedgerKey) (size : ℕ) (old new : Stored) (before after' : Meter) → AllMake effect error entry life old → key_of entry ≡ key → size ≡ entry_size entry
      → entry_format.fits entry → b ≡ true → Does (make_act entry life) (Ok b) old new → Charges q (λ u. u) (lift (values.charged ValSer size)) before after' → IfErr q (λ e. e ≡ ends.Spent)
      → Steps q (λ u. u) (λ env. access env Write key (effect env)) old new before after'
  make_paid b q key size old new before after' makes is sized fits true' h paid spent =
      subst (λ (k : LedgerKey). Steps q (λ u. u) (λ env. access env Write k (effect env)) old new before after') is
      (made_paid q size old new before after' makes sized fits (subst (λ (x : Bool). Does (make_act entry life) (Ok x) old new) true' h) paid spent)

  -- an entry that is there already
  there_already : (old new : Stored) (meter : Meter) → AllMake effect error entry life old → entry_format.fits entry → Does (make_act entry life) (Ok false) old new
      → (let q : Result (Unit {0}) HostErr = Err (ends.Failed error) in Steps q (λ u. u) (λ env. access env Write (key_of entry) (effect env)) old new meter meter)
  there_already old new meter makes fits h env serves w i j =
      let q : Result (Unit {0}) HostErr = Err (ends.Failed error) in
      let same = unmade (admits old.declared kinds.Write (key_of entry)) (seen old.n old.map (key_of entry)) old.n entry life old (left new) h.0 in
      subst (λ (out : Out (Unit {0})). Says q (λ u. u) out (leaving old new w.trace (λ trace. record w { entries = new.map; trace = trace; meter = meter })))
      (sym (make_is (effect env) error entry life env old w (makes env serves) serves (key_of_fits entry fits) i ∙ ap (λ (p : Result Bool StoErr × Left). at_make error p.0 p.1.0 entry w) h.0))
      (tells_access old new Write (key_of entry) w.meter.used w.trace (ap (λ (s : Stored). s.declared) h.1) (made_touched (Ok false) entry life old (left new) h.0), rw (← same, ← i, ← j) refl)

  pub make_there : (b : Bool) (key : LedgerKey) (old new : Stored) (meter : Meter) → AllMake effect error entry life old → key_of entry ≡ key → entry_format.fits entry → b ≡ false → Does (make_act entry life) (Ok b) old new
      → (let q : Result (Unit {0}) HostErr = Err (ends.Failed error) in Steps q (λ u. u) (λ env. access env Write key (effect env)) old new meter meter)
  make_there b key old new meter makes is fits false' h =
      subst (λ (k : LedgerKey). let q : Result (Unit {0}) HostErr = Err (ends.Failed error) in Steps q (λ u. u) (λ env. access env Write k (effect env)) old new meter meter) is
      (there_already old new meter makes fits (subst (λ (x : Bool). Does (make_act entry life) (Ok x) old new) false' h))

  -- a make that the storage refuses
  refused : (e : StoErr) (old new : Stored) (meter : Meter) → AllMake effect error entry life old → entry_format.fits entry → Does (make_act entry life) (Err e) old new
      → (let q : Result (Unit {0}) HostErr = Err (end_of (key_of entry) e) in Steps q (λ u. u) (λ env. access env Write (key_of entry) (effect env)) old new meter meter)
  refused e old new meter makes fits h env serves w i j =
      let q : Result (Unit {0}) HostErr = Err (end_of (key_of entry) e) in
      subst (λ (out : Out (Unit {0})). Says q (λ u. u) out (leaving old new w.trace (λ trace. record w { entries = new.map; trace = trace; meter = meter })))
      (sym (make_is (effect env) error entry life env old w (makes env serves) serves (key_of_fits entry fits) i)) (at e h)
    where
      noted_in : (r : Result Bool StoErr) → make_act entry life old ≡ (r, left new) → touched_after Write (key_of entry) old r ≡ noted' old.declared kinds.Write (key_of entry) old.touched → IsRead old new
          → Tells old new w.trace (noted Write (key_of entry) w).trace
      noted_in r h is same = tells_access old new Write (key_of entry) w.meter.used w.trace (same_declared old new same) (made_touched r entry life old (left new) h ∙ is)

      at : (e : StoErr) → Does (make_act entry life) (Err e) old new
          → (let q : Result (Unit {0}) HostErr = Err (end_of (key_of entry) e) in
          Says q (λ u. u) (at_make error (make_act entry life old).0 (make_act entry life old).1.0 entry w) (leaving old new w.trace (λ trace. record w { entries = new.map; trace = trace; meter = meter })))
      at err.Undeclared h =
          rw h.0 (tells_still old new w.trace (same_declared old new h.1) (made_touched (Err err.Undeclared) entry life old (left new) h.0), rw (← j) refl, j)
      at err.Archived h = rw h.0 (noted_in (Err err.Archived) h.0 refl h.1, refl, j, refl)
      at err.Missing h = rw h.0 (noted_in (Err err.Missing) h.0 refl h.1, rw (same_map old new h.1, ← i, ← j) refl)
      at (err.BadExtend e) h = rw h.0 (noted_in (Err (err.BadExtend e)) h.0 refl h.1, rw (same_map old new h.1, ← i, ← j) refl)
      at err.NoMemory h = tt

  pub make_refused : (e : StoErr) (x : HostErr) (key again : LedgerKey) (old new : Stored) (meter : Meter) → AllMake effect error entry life old → key_of entry ≡ key → again ≡ key → x ≡ end_of again e → entry_format.fits entry
      → Does (make_act entry life) (Err e) old new → (let q : Result (Unit {0}) HostErr = Err x in Steps q (λ u. u) (λ env. access env Write key (effect env)) old new meter meter)
  make_refused e x key again old new meter makes is same end fits h =
      subst (λ (y : HostErr). let q : Result (Unit {0}) HostErr = Err y in Steps q (λ u. u) (λ env. access env Write key (effect env)) old new meter meter) (sym (end ∙ ap (λ (k : LedgerKey). end_of k e) same))
      (subst (λ (k : LedgerKey). let q : Result (Unit {0}) HostErr = Err (end_of k e) in Steps q (λ u. u) (λ env. access env Write k (effect env)) old new meter meter) is
      (refused e old new meter makes fits h))

-- ---- the instance of a new contract

pub instance_makes : (contract code : Hash) (entry : LedgerEntry) (life n : ℕ) (settings : Settings) (s : Stored) → entry ≡ instance_entry n contract (new_instance code) → life ≡ first_life settings n entry → s.n ≡ n → s.lives ≡ settings
    → AllMake (λ env. makes_instance env contract code) EXISTS entry life s
instance_makes contract code entry life n settings s is lasts number lives env serves = record { there = λ kept. refl; none = rw (lasts, is, ← number, ← lives, serves.number, serves.lives) refl }
