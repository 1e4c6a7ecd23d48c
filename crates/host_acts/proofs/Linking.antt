-- The calls of a storage are accesses.
use Rattle.std.proofs.Common.{◌≡◌, ℕ, Bool, true, false, List, Option, Some, None, Result, Ok, Err, refl, sym, ap, subst, ◌∙◌}
use Rattle.std.specs.Prelude.{nat_lt, is_some, if◌then◌else◌}
use Rattle.ledger_types.specs.Key.{key_format}
use Rattle.budget_meter.specs.Meter.{Meter}
use Rattle.ledger_types.specs.declared.key.LedgerKey.{LedgerKey}
use Rattle.ledger_types.specs.declared.entry.LedgerEntry.{LedgerEntry}
use Rattle.ledger_spec.specs.LedgerMap.{LedgerMap, key_bytes}
use Rattle.ledger_spec.specs.Seen.{Seen, live, absent, archived, seen}
use Rattle.ledger_spec.specs.Changes.{delete_seen, asked_life, extend_seen, extend_live, backward}
use Rattle.ledger_spec.specs.declared.Kept.{Kept}
use Rattle.host_spec.specs.declared.error.HostErr.{HostErr}
use Rattle.host_spec.specs.declared.error.HostErr.TheVariants as ends
use Rattle.host_spec.specs.Answers.{Answer, value}
use Rattle.value_types.specs.Datum.{Datum, boolean}
use Rattle.value_types.specs.declared.hash.Hash.{Hash}
use Rattle.ledger_types.specs.declared.durability.Durability.{Durability}
use Rattle.host_frame.specs.Answered.{answer_of}
use Rattle.host_frame.specs.declared.answer.Answer.{Answer as Answer'}
use Rattle.contract_storage.specs.Stored.{Stored, IsRead, with_touched}
use Rattle.contract_storage.specs.Touched.{Known, admits, noted}
use Rattle.contract_storage.specs.Acts.{Call, Left, Does, Reads, left, noting, has_act, had, get_act, got, del_act, changed, extend_act, extended, refusal}
use Rattle.contract_storage.specs.declared.access.Access.TheVariants as kinds
use Rattle.contract_storage.specs.declared.access.StoErr.{StoErr}
use Rattle.contract_storage.specs.declared.access.StoErr.TheVariants as err
use Rattle.call_spec.specs.World.{AccessKind, Read, Extend, Write, Access, World, Env, made_seq}
use Rattle.call_spec.specs.Errors.{NO_ENTRY, INVALID_STORAGE_INPUT}
use Rattle.call_spec.specs.Acts.{Act, Out, Good, Bad, Archived, Undeclared, fails, with_frame}
use Rattle.call_spec.specs.Accesses.{Effect, access, access_of, judged, by_seen, noted as noted', effected}
use Rattle.call_spec.specs.Outcomes.{Leaves, Says, quiet, trace_of}
use Rattle.call_spec.specs.Keys.{data_key}
use Rattle.call_spec.specs.Rules.{nothing}
use Rattle.call_spec.specs.Storage.{has, gets, deletes, lengthens, extends, extending, unless_backward}
use Rattle.host_acts.specs.Traced.{kind_of, known_of, IsTold, Tells, leaving}
use Rattle.host_acts.specs.Served.{Serves}
use Rattle.host_acts.proofs.Composing.{later_read}
use Rattle.host_acts.proofs.Tracing.{retold, tells_access, tells_still, afterwards}
use Rattle.host_acts.specs.Accessed.{end_of, named, Accesses, Pays, opens}

-- ---- answers for results

-- the same result, with an answer for what was returned
abbrev pub Answered : {A : Type 0} → (A → Answer) → Result A HostErr → Result Answer' HostErr → Type 0
Answered view (Ok a) (Ok b) = answer_of b ≡ view a
Answered view (Err d) (Err e) = e ≡ d
Answered view _ _ = ⊥

says_answered : {A : Type 0} (view : A → Answer) (r : Result A HostErr) (q : Result Answer' HostErr) (out : Out Answer) (left : Leaves) → Answered view r q
    → Says r view out left → Says q answer_of out left
says_answered view (Ok a) (Ok b) out left k h = (h.0, h.1 ∙ ap (λ (x : Answer). Good x (left.world (trace_of out))) (sym k))
says_answered view (Ok a) (Err e) out left k h = absurd k
says_answered view (Err d) (Ok b) out left k h = absurd k
says_answered {A} view (Err d) (Err e) out left k h = subst (λ (x : HostErr). let q : Result Answer' HostErr = Err x in Says q answer_of out left) (sym k) (at d h)
  where
    at : (d : HostErr) → (let r : Result A HostErr = Err d in Says r view out left) → let q : Result Answer' HostErr = Err d in Says q answer_of out left
    at (ends.Failed e) h = h
    at ends.Spent h = h
    at (ends.Undeclared key) h = h
    at (ends.Archived key) h = h
    at ends.NoMemory h = tt

-- ---- what a call of the storage leaves

-- the storage with this map and this known of the accesses
abbrev pub state : Stored → Left → Stored
state s l = record s { map = l.0; touched = l.1 }

-- what an access leaves in a world, given the map and the touched keys then
abbrev pub left_by : Stored → Left → World → Leaves
left_by s l w = leaving s (state s l) w.trace (λ trace. record w { entries = l.0; trace = trace })

-- the same where the storage has them
left_now : {A B : Type 0} (r : Result A HostErr) (view : A → B) (out : Out B) (old new : Stored) (w : World) → new.declared ≡ old.declared
    → Says r view out (left_by old (left new) w) → Says r view out (leaving old new w.trace (λ trace. record w { entries = new.map; trace = trace }))
left_now r view out old new w same h =
    retold r view out (λ trace. record w { entries = new.map; trace = trace }) (λ after. IsTold old w.trace → IsTold (state old (left new)) after) (λ after. IsTold old w.trace → IsTold new after)
    (λ after told before. told before ∙ ap (λ d. known_of d new.touched.seen.limit after) (sym same)) h

-- the touched keys after an access that was allowed
abbrev pub after_access : Stored → AccessKind → LedgerKey → Left
after_access s kind key = (s.map, noted s.declared (kind_of kind) key s.touched)

-- ---- accesses that charge nothing

-- how an access ends where its key was judged and seen so
abbrev pub decided : {A : Type 0} → Bool → Seen → AccessKind → LedgerKey → (Option Kept → Effect A) → Act A
decided true o kind key effect w = by_seen key effect o (noted' kind key w)
decided false o kind key effect w = judged false 0 kind key effect w

decided_is : {A : Type 0} (a : Bool) (n : ℕ) (kind : AccessKind) (key : LedgerKey) (effect : Option Kept → Effect A) (w : World) → judged a n kind key effect w ≡ decided a (seen n w.entries key) kind key effect w
decided_is true n kind key effect w = refl
decided_is false n kind key effect w = refl

-- the access in an environment that the storage serves
pub access_is : {A : Type 0} (env : Env) (s : Stored) (kind : AccessKind) (key : LedgerKey) (effect : Option Kept → Effect A) (w : World) → Serves env s → key_format.fits key → w.entries ≡ s.map
    → access env kind key effect w ≡ decided (admits s.declared (kind_of kind) key) (seen s.n s.map key) kind key effect w
access_is {A} env s kind key effect w serves fits e =
    decided_is (env.judge kind (key_bytes key)) (made_seq env) kind key effect w
    ∙ rw (serves.judge kind key fits, serves.number, e) refl

-- what an act leaves, of a pair that is the act's
by_pair : {A B : Type 0} (key : LedgerKey) (view : A → B) (s : Stored) (w : World) (out : Out B) (p q : Result A StoErr × Left) → p ≡ q
    → Says (named key p.0) view out (left_by s p.1 w) → Says (named key q.0) view out (left_by s q.1 w)
by_pair {A} {B} key view s w out p q e h = subst (λ (x : Result A StoErr × Left). Says (named key x.0) view out (left_by s x.1 w)) e h

pub same_declared : (old new : Stored) → new ≡ with_touched old new.touched → new.declared ≡ old.declared
same_declared old new e = ap (λ (s : Stored). s.declared) e

pub same_map : (old new : Stored) → new ≡ with_touched old new.touched → new.map ≡ old.map
same_map old new e = ap (λ (s : Stored). s.map) e

-- a call that returned this and left this, and changed no declared key
did : {A B : Type 0} (key : LedgerKey) (view : A → B) (out : Out B) (old new : Stored) (w : World) (r : Result A StoErr) (p : Result A StoErr × Left) → p ≡ (r, left new) → new.declared ≡ old.declared
    → Says (named key p.0) view out (left_by old p.1 w) → Says (named key r) view out (leaving old new w.trace (λ trace. record w { entries = new.map; trace = trace }))
did key view out old new w r p e same k = left_now (named key r) view out old new w same (by_pair key view old w out p (r, left new) e k)

-- a call that does its act, or ran out of memory
does_is : {A B : Type 0} (act : Call A) (r : Result A StoErr) (old new : Stored) (key : LedgerKey) (view : A → B) (w : World) (out : Out B) → Does act r old new
    → Says (named key (act old).0) view out (left_by old (act old).1 w)
    → Says (named key r) view out (leaving old new w.trace (λ trace. record w { entries = new.map; trace = trace }))
does_is act (Ok v) old new key view w out h k = did key view out old new w (Ok v) (act old) h.0 (ap (λ (s : Stored). s.declared) h.1) k
does_is act (Err err.NoMemory) old new key view w out h k = tt
does_is act (Err err.Undeclared) old new key view w out h k = did key view out old new w (Err err.Undeclared) (act old) h.0 (same_declared old new h.1) k
does_is act (Err err.Archived) old new key view w out h k = did key view out old new w (Err err.Archived) (act old) h.0 (same_declared old new h.1) k
does_is act (Err err.Missing) old new key view w out h k = did key view out old new w (Err err.Missing) (act old) h.0 (same_declared old new h.1) k
does_is act (Err (err.BadExtend e)) old new key view w out h k = did key view out old new w (Err (err.BadExtend e)) (act old) h.0 (same_declared old new h.1) k

some_none : (d : Option (List (LedgerKey × Bool))) → is_some d ≡ true → d ≡ None → ⊥
some_none None e h = absurd cc
some_none (Some x) e h = absurd cc

-- a read changes no entry
reads_does : {A : Type 0} (call : Call A) (r : Result A StoErr) (old new : Stored) → Reads call r old new → Does call r old new
reads_does call (Ok v) old new h = (h.0, later_read old new h.1)
reads_does call (Err err.NoMemory) old new h = ((λ e. absurd (some_none old.declared e h.0)), h.1)
reads_does call (Err err.Undeclared) old new h = h
reads_does call (Err err.Archived) old new h = h
reads_does call (Err err.Missing) old new h = h
reads_does call (Err (err.BadExtend e)) old new h = h

still_read : (old new : Stored) → new ≡ old → IsRead old new
still_read old new e = subst (λ (s : Stored). IsRead old s) (sym e) refl

-- a read only touches a key
pub reads_read : {A : Type 0} (call : Call A) (r : Result A StoErr) (old new : Stored) → Reads call r old new → IsRead old new
reads_read call (Ok v) old new h = h.1
reads_read call (Err err.NoMemory) old new h = still_read old new h.1
reads_read call (Err err.Undeclared) old new h = h.1
reads_read call (Err err.Archived) old new h = h.1
reads_read call (Err err.Missing) old new h = h.1
reads_read call (Err (err.BadExtend e)) old new h = h.1

-- `has`
abbrev pub has_done : Bool → Seen → LedgerKey → Call Bool
has_done a o key s = if a then (had o, after_access s Read key) else (Err err.Undeclared, left s)

has_decided : (a : Bool) (o : Seen) (key : LedgerKey) (s : Stored) (w : World) → w.entries ≡ s.map
    → Says (named key (has_done a o key s).0) (λ b. value (boolean b)) (decided a o Read key has w) (left_by s (has_done a o key s).1 w)
has_decided true (live kept) key s w e = (tells_access s (state s (after_access s Read key)) Read key w.meter.used w.trace refl refl, rw (← e) refl)
has_decided true absent key s w e = (tells_access s (state s (after_access s Read key)) Read key w.meter.used w.trace refl refl, rw (← e) refl)
has_decided true archived key s w e = (tells_access s (state s (after_access s Read key)) Read key w.meter.used w.trace refl refl, refl, refl, refl)
has_decided false o key s w e = ((λ told. told), refl, refl)

pub has_says : (r : Result Bool StoErr) (key : LedgerKey) (old new : Stored) → key_format.fits key → Reads (has_act key) r old new
    → Accesses (named key r) (λ b. value (boolean b)) (λ env. access env Read key has) old new
has_says r key old new fits h env serves w e =
    does_is (has_act key) r old new key (λ b. value (boolean b)) w (access env Read key has w) (reads_does (has_act key) r old new h)
    (subst (λ (out : Out Answer). Says (named key (has_act key old).0) (λ b. value (boolean b)) out (left_by old (has_act key old).1 w)) (sym (access_is env old Read key has w serves fits e))
    (has_decided (admits old.declared kinds.Read key) (seen old.n old.map key) key old w e))

-- ---- changes that charge nothing

-- `del`
abbrev pub deleted : Bool → Seen → LedgerKey → Call (Unit {0})
deleted a o key s = if a then noting kinds.Write key (changed (delete_seen o s.map key)) s else (Err err.Undeclared, left s)

deletes_decided : (a : Bool) (o : Seen) (key : LedgerKey) (s : Stored) (w : World) → w.entries ≡ s.map
    → Says (named key (deleted a o key s).0) (λ _. nothing) (decided a o Write key deletes w) (left_by s (deleted a o key s).1 w)
deletes_decided true (live kept) key s w e = (tells_access s (state s (deleted true (live kept) key s).1) Write key w.meter.used w.trace refl refl, rw e refl)
deletes_decided true absent key s w e = (tells_access s (state s (deleted true absent key s).1) Write key w.meter.used w.trace refl refl, rw (← e) refl)
deletes_decided true archived key s w e = (tells_access s (state s (deleted true archived key s).1) Write key w.meter.used w.trace refl refl, refl, refl, refl)
deletes_decided false o key s w e = ((λ told. told), refl, refl)

pub del_says : (r : Result (Unit {0}) StoErr) (key : LedgerKey) (old new : Stored) → key_format.fits key → Does (del_act key) r old new
    → Accesses (named key r) (λ _. nothing) (λ env. access env Write key deletes) old new
del_says r key old new fits h env serves w e =
    does_is (del_act key) r old new key (λ _. nothing) w (access env Write key deletes w) h
    (subst (λ (out : Out Answer). Says (named key (del_act key old).0) (λ _. nothing) out (left_by old (del_act key old).1 w))
    (sym (access_is env old Write key deletes w serves fits e)) (deletes_decided (admits old.declared kinds.Write key) (seen old.n old.map key) key old w e))

-- ---- the calls of the program

-- a call that returns an answer for what the storage returned
pub has_yields : (r : Result Bool StoErr) (q : Result Answer' HostErr) (key : LedgerKey) (old new : Stored) → key_format.fits key → Reads (has_act key) r old new
    → Answered (λ b. value (boolean b)) (named key r) q → Accesses q answer_of (λ env. access env Read key has) old new
has_yields r q key old new fits h k env serves w e =
    says_answered (λ b. value (boolean b)) (named key r) q (access env Read key has w) _ k (has_says r key old new fits h env serves w e)

pub del_yields : (r : Result (Unit {0}) StoErr) (q : Result Answer' HostErr) (key : LedgerKey) (old new : Stored) → key_format.fits key → Does (del_act key) r old new
    → Answered (λ _. nothing) (named key r) q → Accesses q answer_of (λ env. access env Write key deletes) old new
del_yields r q key old new fits h k env serves w e =
    says_answered (λ _. nothing) (named key r) q (access env Write key deletes w) _ k (del_says r key old new fits h env serves w e)

-- `extend`
abbrev pub lengthened : Bool → Bool → Seen → LedgerKey → ℕ → ℕ → Call (Unit {0})
lengthened b a o key threshold extend_to s =
    if b then (Err (refusal backward), left s)
    else if a then noting kinds.Extend key (extended (if b then Err backward else extend_seen o s.lives s.n s.map key threshold extend_to)) s
    else (Err err.Undeclared, left s)

extends_decided : (env : Env) (b a : Bool) (o : Seen) (key : LedgerKey) (threshold extend_to : ℕ) (s : Stored) (w : World) → Serves env s → w.entries ≡ s.map
    → Says (named key (lengthened b a o key threshold extend_to s).0) (λ _. nothing) ((if b then fails INVALID_STORAGE_INPUT else decided a o Extend key (extends env threshold extend_to)) w)
    (left_by s (lengthened b a o key threshold extend_to s).1 w)
extends_decided env true a o key threshold extend_to s w serves e = ((λ told. told), rw (← e) refl)
extends_decided env false false o key threshold extend_to s w serves e = ((λ told. told), refl, refl)
extends_decided env false true absent key threshold extend_to s w serves e = (tells_access s (state s (after_access s Extend key)) Extend key w.meter.used w.trace refl refl, rw (← e) refl)
extends_decided env false true archived key threshold extend_to s w serves e = (tells_access s (state s (after_access s Extend key)) Extend key w.meter.used w.trace refl refl, refl, refl, refl)
extends_decided env false true (live kept) key threshold extend_to s w serves e =
    rw (← serves.number, ← serves.lives) (by_life s.n (asked_life s.lives s.n kept.entry extend_to))
  where
    by_life : (n : ℕ) (life : Option ℕ)
        → Says (named key (noting kinds.Extend key (extended (extend_live life n s.map key kept threshold)) s).0) (λ _. nothing) (effected key (lengthens life n kept threshold) (noted' Extend key w))
        (left_by s (noting kinds.Extend key (extended (extend_live life n s.map key kept threshold)) s).1 w)
    by_life n None = (tells_access s (state s (after_access s Extend key)) Extend key w.meter.used w.trace refl refl, rw (← e) refl)
    by_life n (Some life) = (tells_access s (state s (noting kinds.Extend key (extended (extend_live (Some life) n s.map key kept threshold)) s).1) Extend key w.meter.used w.trace refl refl, rw e refl)

-- the access of an extension in an environment that the storage serves
extending_is : (b : Bool) (env : Env) (s : Stored) (key : LedgerKey) (threshold extend_to : ℕ) (w : World) → Serves env s → key_format.fits key → w.entries ≡ s.map
    → (if b then fails INVALID_STORAGE_INPUT else extending env key threshold extend_to) w
    ≡ (if b then fails INVALID_STORAGE_INPUT else decided (admits s.declared kinds.Extend key) (seen s.n s.map key) Extend key (extends env threshold extend_to)) w
extending_is true env s key threshold extend_to w serves fits e = refl
extending_is false env s key threshold extend_to w serves fits e = access_is env s Extend key (extends env threshold extend_to) w serves fits e

pub extend_says : (r : Result (Unit {0}) StoErr) (key : LedgerKey) (threshold extend_to : ℕ) (old new : Stored) → key_format.fits key → Does (extend_act key threshold extend_to) r old new
    → Accesses (named key r) (λ _. nothing) (λ env. unless_backward threshold extend_to (extending env key threshold extend_to)) old new
extend_says r key threshold extend_to old new fits h env serves w e =
    does_is (extend_act key threshold extend_to) r old new key (λ _. nothing) w (unless_backward threshold extend_to (extending env key threshold extend_to) w) h
    (subst (λ (out : Out Answer). Says (named key (extend_act key threshold extend_to old).0) (λ _. nothing) out (left_by old (extend_act key threshold extend_to old).1 w))
    (sym (extending_is (nat_lt extend_to threshold) env old key threshold extend_to w serves fits e))
    (extends_decided env (nat_lt extend_to threshold) (admits old.declared kinds.Extend key) (seen old.n old.map key) key threshold extend_to old w serves e))

pub extend_yields : (r : Result (Unit {0}) StoErr) (q : Result Answer' HostErr) (key : LedgerKey) (threshold extend_to : ℕ) (old new : Stored) → key_format.fits key → nat_lt extend_to threshold ≡ false
    → Does (extend_act key threshold extend_to) r old new → Answered (λ _. nothing) (named key r) q
    → Accesses q answer_of (λ env. extending env key threshold extend_to) old new
extend_yields r q key threshold extend_to old new fits ahead h k env serves w e =
    says_answered (λ _. nothing) (named key r) q (extending env key threshold extend_to w) _ k
    (subst (λ (b : Bool). Says (named key r) (λ _. nothing) ((if b then fails INVALID_STORAGE_INPUT else extending env key threshold extend_to) w)
    (leaving old new w.trace (λ trace. record w { entries = new.map; trace = trace }))) ahead
    (extend_says r key threshold extend_to old new fits h env serves w e))

-- ---- what a storage knows after an access

-- the touched keys after an access, given what the storage returned
abbrev pub touched_after : {A : Type 0} → AccessKind → LedgerKey → Stored → Result A StoErr → Known
touched_after kind key s (Err err.Undeclared) = s.touched
touched_after kind key s _ = noted s.declared (kind_of kind) key s.touched

-- ---- reads

-- how the access ends, given what the storage returned; None is no end of it
abbrev pub at_got : Result LedgerEntry StoErr → LedgerKey → Act Answer
at_got (Ok entry) key w = opens key entry (noted' Read key w)
at_got (Err err.Undeclared) key w = Undeclared (access_of Read key w) w
at_got (Err err.Archived) key w = Bad (Archived key) (noted' Read key w)
at_got (Err err.Missing) key w = fails NO_ENTRY (noted' Read key w)
at_got (Err (err.BadExtend e)) key w = fails e (noted' Read key w)
at_got (Err err.NoMemory) key w = fails NO_ENTRY w

-- `get`, whose charge comes after the access
get_decided : (a : Bool) (o : Seen) (key : LedgerKey) (w : World)
    → decided a o Read key gets w ≡ at_got (if a then got o else Err err.Undeclared) key w
get_decided true (live kept) key w = refl
get_decided true absent key w = refl
get_decided true archived key w = refl
get_decided false o key w = refl

-- what `get` does, of a key that was judged and seen so
abbrev pub get_done : Bool → Seen → LedgerKey → Call LedgerEntry
get_done a o key s = if a then (got o, after_access s Read key) else (Err err.Undeclared, left s)

pub got_of : (a : Bool) (o : Seen) (key : LedgerKey) (s : Stored) → (if a then got o else Err err.Undeclared) ≡ (get_done a o key s).0
got_of true o key s = refl
got_of false o key s = refl

-- the access of a read, given what the act returns
get_is : (key : LedgerKey) (s : Stored) → key_format.fits key → (env : Env) → Serves env s → (w : World) → w.entries ≡ s.map → access env Read key gets w ≡ at_got (get_act key s).0 key w
get_is key s fits env serves w e =
    access_is env s Read key gets w serves fits e ∙ get_decided (admits s.declared kinds.Read key) (seen s.n s.map key) key w
    ∙ ap (λ (q : Result LedgerEntry StoErr). at_got q key w) (got_of (admits s.declared kinds.Read key) (seen s.n s.map key) key s)

done_left : (a : Bool) (o : Seen) (key : LedgerKey) (s : Stored) → (get_done a o key s).1 ≡ (s.map, touched_after Read key s (get_done a o key s).0)
done_left true (live kept) key s = refl
done_left true absent key s = refl
done_left true archived key s = refl
done_left false o key s = refl

-- what a read leaves, given what it returned
pub get_left : (r : Result LedgerEntry StoErr) (key : LedgerKey) (s : Stored) (l : Left) → get_act key s ≡ (r, l) → l ≡ (s.map, touched_after Read key s r)
get_left r key s l h =
    sym (ap (λ (p : Result LedgerEntry StoErr × Left). p.1) h) ∙ done_left (admits s.declared kinds.Read key) (seen s.n s.map key) key s
    ∙ ap (λ (p : Result LedgerEntry StoErr × Left). (s.map, touched_after Read key s p.0)) h

-- what a read tells that the storage refuses
pub refused_still : (key : LedgerKey) (old new : Stored) (before : List Access) → (let none : Result LedgerEntry StoErr = Err err.Undeclared in Reads (get_act key) none old new) → Tells old new before before
refused_still key old new before h = tells_still old new before (same_declared old new h.1) (ap (λ (l : Left). l.1) (get_left (Err err.Undeclared) key old (left new) h.0))

-- what a read tells that ends with another error
pub noted_still : (e : StoErr) (key : LedgerKey) (old new : Stored) (w : World) → (let none : Result LedgerEntry StoErr = Err e in get_act key old ≡ (none, left new))
    → (let none : Result LedgerEntry StoErr = Err e in touched_after Read key old none ≡ noted old.declared kinds.Read key old.touched) → new ≡ with_touched old new.touched → Tells old new w.trace (noted' Read key w).trace
noted_still e key old new w h is same = tells_access old new Read key w.meter.used w.trace (same_declared old new same) (ap (λ (l : Left). l.1) (get_left (Err e) key old (left new) h) ∙ is)

-- a read that the storage refuses
pub get_refused : (e : StoErr) (key : LedgerKey) (old new : Stored) (meter : Meter) → key_format.fits key → (let none : Result LedgerEntry StoErr = Err e in Reads (get_act key) none old new)
    → Pays (Err (end_of key e)) (λ env. access env Read key gets) old new meter meter
get_refused e key old new meter fits h env serves w i j =
    let none : Result Answer' HostErr = Err (end_of key e) in
    subst (λ (out : Out Answer). Says none answer_of out (leaving old new w.trace (λ trace. record w { entries = new.map; trace = trace; meter = meter }))) (sym (get_is key old fits env serves w i)) (at e h)
  where
    at : (e : StoErr) → (let none : Result LedgerEntry StoErr = Err e in Reads (get_act key) none old new)
        → (let none : Result Answer' HostErr = Err (end_of key e) in
        Says none answer_of (at_got (get_act key old).0 key w) (leaving old new w.trace (λ trace. record w { entries = new.map; trace = trace; meter = meter })))
    at err.Undeclared h = rw h.0 (refused_still key old new w.trace h, rw (← j) refl, j)
    at err.Archived h = rw h.0 (noted_still err.Archived key old new w h.0 refl h.1, refl, j, refl)
    at err.Missing h = rw h.0 (noted_still err.Missing key old new w h.0 refl h.1, rw (same_map old new h.1, ← i, ← j) refl)
    at (err.BadExtend e) h = rw h.0 (noted_still (err.BadExtend e) key old new w h.0 refl h.1, rw (same_map old new h.1, ← i, ← j) refl)
    at err.NoMemory h = tt

-- what a read tells that returns an entry
pub got_tells : (entry : LedgerEntry) (key : LedgerKey) (old new : Stored) (w : World) → (let found : Result LedgerEntry StoErr = Ok entry in Reads (get_act key) found old new) → Tells old new w.trace (noted' Read key w).trace
got_tells entry key old new w h =
    tells_access old new Read key w.meter.used w.trace (same_declared old new h.1) (ap (λ (l : Left). l.1) (get_left (Ok entry) key old (left new) h.0))

-- a read that finds a live entry, whose value is opened
pub get_opened : (q : Result Answer' HostErr) (entry : LedgerEntry) (key : LedgerKey) (old new : Stored) (before after : Meter) → key_format.fits key
    → (let found : Result LedgerEntry StoErr = Ok entry in Reads (get_act key) found old new)
    → ((w : World) → w.meter ≡ before → Says q answer_of (opens key entry w) (quiet w (λ trace. record w { trace = trace; meter = after })))
    → Pays q (λ env. access env Read key gets) old new before after
get_opened q entry key old new before after fits h opened env serves w i j =
    let at : World = noted' Read key w in
    subst (λ (out : Out Answer). Says q answer_of out (leaving old new w.trace (λ trace. record w { entries = new.map; trace = trace; meter = after })))
    (sym (get_is key old fits env serves w i ∙ ap (λ (p : Result LedgerEntry StoErr × Left). at_got p.0 key w) h.0))
    (subst (λ (x : LedgerMap). Says q answer_of (opens key entry at) (leaving old new w.trace (λ trace. record w { entries = x; trace = trace; meter = after }))) (i ∙ sym (same_map old new h.1))
    (afterwards q answer_of (opens key entry at) old new w.trace at (λ trace. record w { trace = trace; meter = after }) (got_tells entry key old new w h) (opened at j)))

-- an extension whose threshold was compared
forward_is : (contract : Hash) (key : Datum) (k : LedgerKey) (durability : Durability) (threshold extend_to : ℕ) → nat_lt extend_to threshold ≡ false → k ≡ data_key contract key durability
    → (env : Env) (w : World) → w.frame.contract ≡ contract
    → unless_backward threshold extend_to (with_frame (λ frame. extending env (data_key frame.contract key durability) threshold extend_to)) w ≡ extending env k threshold extend_to w
forward_is contract key k durability threshold extend_to ahead is env w j = rw (ahead, is, j) refl

pub forward_entry : (q : Result Answer' HostErr) (contract : Hash) (key : Datum) (k : LedgerKey) (durability : Durability) (threshold extend_to : ℕ) (old new : Stored)
    → nat_lt extend_to threshold ≡ false → k ≡ data_key contract key durability → Accesses q answer_of (λ env. extending env k threshold extend_to) old new
    → (env : Env) → Serves env old → (w : World) → w.entries ≡ old.map → w.frame.contract ≡ contract
    → Says q answer_of (unless_backward threshold extend_to (with_frame (λ frame. extending env (data_key frame.contract key durability) threshold extend_to)) w)
    (leaving old new w.trace (λ trace. record w { entries = new.map; trace = trace }))
forward_entry q contract key k durability threshold extend_to old new ahead is h env serves w i j =
    subst (λ (out : Out Answer). Says q answer_of out (leaving old new w.trace (λ trace. record w { entries = new.map; trace = trace }))) (sym (forward_is contract key k durability threshold extend_to ahead is env w j)) (h env serves w i)
