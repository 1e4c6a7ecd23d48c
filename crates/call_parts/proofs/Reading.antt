-- Reads of the storage are accesses.
use Rattle.std.proofs.Common.{◌≡◌, Bool, true, false, Option, Some, None, Result, Ok, Err, refl, sym, ap, subst, ◌∙◌}
use Rattle.std.specs.Prelude.{if◌then◌else◌}
use Rattle.budget_meter.specs.Meter.{Meter}
use Rattle.ledger_types.specs.Key.{key_format}
use Rattle.ledger_types.specs.declared.key.LedgerKey.{LedgerKey}
use Rattle.ledger_types.specs.declared.entry.LedgerEntry.{LedgerEntry}
use Rattle.ledger_spec.specs.LedgerMap.{LedgerMap}
use Rattle.ledger_spec.specs.Seen.{Seen, live, absent, archived, seen}
use Rattle.ledger_spec.specs.declared.Kept.{Kept}
use Rattle.host_spec.specs.declared.error.HostErr.{HostErr}
use Rattle.contract_storage.specs.Stored.{Stored, IsRead}
use Rattle.contract_storage.specs.Touched.{admits, noted as noted'}
use Rattle.contract_storage.specs.Acts.{Left, Reads, left, has_act, had, get_act, got}
use Rattle.contract_storage.specs.declared.access.Access.TheVariants as kinds
use Rattle.contract_storage.specs.declared.access.StoErr.{StoErr}
use Rattle.contract_storage.specs.declared.access.StoErr.TheVariants as err
use Rattle.call_spec.specs.Errors.{NO_ENTRY}
use Rattle.call_spec.specs.World.{Read, World, Env}
use Rattle.call_spec.specs.Acts.{Act, Out, Bad, Archived, Undeclared, fails}
use Rattle.call_spec.specs.Accesses.{Effect, answers, refuses, access, access_of, noted, effected}
use Rattle.call_spec.specs.Creating.{is_there}
use Rattle.call_spec.specs.Outcomes.{Says}
use Rattle.host_ledger.specs.Traced.{Tells, leaving}
use Rattle.host_ledger.specs.Worlds.{Serves}
use Rattle.host_ledger.specs.Accessed.{end_of, Accesses}
use Rattle.host_ledger.proofs.Lemmas.{access_is, afterwards, decided, got_of, got_tells, has_done, noted_still, refused_still, same_declared, same_map, tells_access, tells_still, touched_after}
use Rattle.call_parts.specs.Steps.{Steps, Charges, Returns}
use Rattle.call_parts.proofs.Joining.{retraced}

-- ---- look-ups

-- An effect on the entry that an access finds. A key without a live entry is refused.
pub record Opens {A : Type 0} (effect : Option Kept → Effect A) (on : LedgerEntry → Effect A) : Type 0 where
  pub found : (kept : Kept) → effect (Some kept) ≡ on kept.entry
  pub none : effect None ≡ refuses NO_ENTRY

-- how the access ends, given what the storage returned; some of these are no end of it
abbrev at_got : {A : Type 0} → (LedgerEntry → Effect A) → Result LedgerEntry StoErr → LedgerKey → Act A
at_got on (Ok entry) key w = effected key (on entry) (noted Read key w)
at_got on (Err err.Undeclared) key w = Undeclared (access_of Read key w) w
at_got on (Err err.Archived) key w = Bad (Archived key) (noted Read key w)
at_got on (Err err.Missing) key w = fails NO_ENTRY (noted Read key w)
at_got on (Err (err.BadExtend e)) key w = fails e (noted Read key w)
at_got on (Err err.NoMemory) key w = fails NO_ENTRY w

got_decided : {A : Type 0} (effect : Option Kept → Effect A) (on : LedgerEntry → Effect A) → Opens effect on → (a : Bool) (o : Seen) (key : LedgerKey) (w : World)
    → decided a o Read key effect w ≡ at_got on (if a then got o else Err err.Undeclared) key w
got_decided effect on h true (live kept) key w = ap (λ (x : Effect _). effected key x (noted Read key w)) (h.found kept)
got_decided effect on h true absent key w = ap (λ (x : Effect _). effected key x (noted Read key w)) h.none
got_decided effect on h true archived key w = refl
got_decided effect on h false o key w = refl

-- the access, given what the storage returned
got_is : {A : Type 0} (effect : Option Kept → Effect A) (on : LedgerEntry → Effect A) → Opens effect on → (key : LedgerKey) (s : Stored) → key_format.fits key
    → (env : Env) → Serves env s → (w : World) → w.entries ≡ s.map → access env Read key effect w ≡ at_got on (get_act key s).0 key w
got_is effect on opens key s fits env serves w e =
    access_is env s Read key effect w serves fits e ∙ got_decided effect on opens (admits s.declared kinds.Read key) (seen s.n s.map key) key w
    ∙ ap (λ (q : Result LedgerEntry StoErr). at_got on q key w) (got_of (admits s.declared kinds.Read key) (seen s.n s.map key) key s)

-- a read that the storage refuses
pub read_refused : {A B : Type 0} (view : A → B) (effect : Option Kept → Effect B) (on : LedgerEntry → Effect B) → Opens effect on → (e : StoErr) (x : HostErr) (key : LedgerKey) (old new : Stored) → key_format.fits key
    → x ≡ end_of key e → (let none : Result LedgerEntry StoErr = Err e in Reads (get_act key) none old new)
    → (let q : Result A HostErr = Err x in Accesses q view (λ env. access env Read key effect) old new)
read_refused {A} {B} view effect on opens e x key old new fits is h env serves w i =
    subst (λ (y : HostErr). let q : Result A HostErr = Err y in Says q view (access env Read key effect w) (leaving old new w.trace (λ trace. record w { entries = new.map; trace = trace }))) (sym is)
    (let q : Result A HostErr = Err (end_of key e) in
    subst (λ (out : Out B). Says q view out (leaving old new w.trace (λ trace. record w { entries = new.map; trace = trace }))) (sym (got_is effect on opens key old fits env serves w i)) (at e h))
  where
    at : (e : StoErr) → (let none : Result LedgerEntry StoErr = Err e in Reads (get_act key) none old new)
        → (let q : Result A HostErr = Err (end_of key e) in Says q view (at_got on (get_act key old).0 key w) (leaving old new w.trace (λ trace. record w { entries = new.map; trace = trace })))
    at err.Undeclared h = rw h.0 (refused_still key old new w.trace h, refl, refl)
    at err.Archived h = rw h.0 (noted_still err.Archived key old new w h.0 refl h.1, refl, refl, refl)
    at err.Missing h = rw h.0 (noted_still err.Missing key old new w h.0 refl h.1, rw (same_map old new h.1, ← i) refl)
    at (err.BadExtend e) h = rw h.0 (noted_still (err.BadExtend e) key old new w h.0 refl h.1, rw (same_map old new h.1, ← i) refl)
    at err.NoMemory h = tt

-- a read that finds a live entry, on which the effect charges
pub read_charged : {A B : Type 0} (view : A → B) (effect : Option Kept → Effect B) (on : LedgerEntry → Effect B) → Opens effect on → (q : Result A HostErr) (entry : LedgerEntry) (key : LedgerKey) (old new : Stored)
    (before after : Meter) → key_format.fits key → (let found : Result LedgerEntry StoErr = Ok entry in Reads (get_act key) found old new)
    → Charges q view (effected key (on entry)) before after → Steps q view (λ env. access env Read key effect) old new before after
read_charged {A} {B} view effect on opens q entry key old new before after fits h does env serves w i j =
    let at : World = noted Read key w in
    subst (λ (out : Out B). Says q view out (leaving old new w.trace (λ trace. record w { entries = new.map; trace = trace; meter = after })))
    (sym (got_is effect on opens key old fits env serves w i ∙ ap (λ (p : Result LedgerEntry StoErr × Left). at_got on p.0 key w) h.0))
    (subst (λ (x : LedgerMap). Says q view (effected key (on entry) at) (leaving old new w.trace (λ trace. record w { entries = x; trace = trace; meter = after }))) (i ∙ sym (same_map old new h.1))
    (afterwards q view (effected key (on entry) at) old new w.trace at (λ trace. record w { trace = trace; meter = after }) (got_tells entry key old new w h)
    (retraced q view (effected key (on entry) at) at (record at { meter = after }) (does at j))))

-- the same where the effect charges nothing
pub read_found : {A B : Type 0} (view : A → B) (effect : Option Kept → Effect B) (on : LedgerEntry → Effect B) → Opens effect on → (q : Result A HostErr) (entry : LedgerEntry) (key : LedgerKey) (old new : Stored)
    → key_format.fits key → (let found : Result LedgerEntry StoErr = Ok entry in Reads (get_act key) found old new)
    → Returns q view (effected key (on entry)) → Accesses q view (λ env. access env Read key effect) old new
read_found {A} {B} view effect on opens q entry key old new fits h does env serves w i =
    let at : World = noted Read key w in
    subst (λ (out : Out B). Says q view out (leaving old new w.trace (λ trace. record w { entries = new.map; trace = trace })))
    (sym (got_is effect on opens key old fits env serves w i ∙ ap (λ (p : Result LedgerEntry StoErr × Left). at_got on p.0 key w) h.0))
    (subst (λ (x : LedgerMap). Says q view (effected key (on entry) at) (leaving old new w.trace (λ trace. record w { entries = x; trace = trace }))) (i ∙ sym (same_map old new h.1))
    (afterwards q view (effected key (on entry) at) old new w.trace at (λ trace. record w { trace = trace }) (got_tells entry key old new w h) (retraced q view (effected key (on entry) at) at at (does at))))

-- ---- `has`

-- how the access ends, given what the storage returned; some of these are no end of it
abbrev at_had : Result Bool StoErr → LedgerKey → Act Bool
at_had (Ok there) key w = effected key (answers there) (noted Read key w)
at_had (Err err.Undeclared) key w = Undeclared (access_of Read key w) w
at_had (Err err.Archived) key w = Bad (Archived key) (noted Read key w)
at_had (Err err.Missing) key w = fails NO_ENTRY (noted Read key w)
at_had (Err (err.BadExtend e)) key w = fails e (noted Read key w)
at_had (Err err.NoMemory) key w = fails NO_ENTRY w

had_decided : (a : Bool) (o : Seen) (key : LedgerKey) (w : World) → decided a o Read key is_there w ≡ at_had (if a then had o else Err err.Undeclared) key w
had_decided true (live kept) key w = refl
had_decided true absent key w = refl
had_decided true archived key w = refl
had_decided false o key w = refl

had_of : (a : Bool) (o : Seen) (key : LedgerKey) (s : Stored) → (if a then had o else Err err.Undeclared) ≡ (has_done a o key s).0
had_of true o key s = refl
had_of false o key s = refl

had_is : (key : LedgerKey) (s : Stored) → key_format.fits key → (env : Env) → Serves env s → (w : World) → w.entries ≡ s.map → access env Read key is_there w ≡ at_had (has_act key s).0 key w
had_is key s fits env serves w e =
    access_is env s Read key is_there w serves fits e ∙ had_decided (admits s.declared kinds.Read key) (seen s.n s.map key) key w
    ∙ ap (λ (q : Result Bool StoErr). at_had q key w) (had_of (admits s.declared kinds.Read key) (seen s.n s.map key) key s)

has_left : (a : Bool) (o : Seen) (key : LedgerKey) (s : Stored) → (has_done a o key s).1.1 ≡ touched_after Read key s (has_done a o key s).0
has_left true (live kept) key s = refl
has_left true absent key s = refl
has_left true archived key s = refl
has_left false o key s = refl

-- the touched keys after a look-up, given what it returned
has_touched : (r : Result Bool StoErr) (key : LedgerKey) (s : Stored) (l : Left) → has_act key s ≡ (r, l) → l.1 ≡ touched_after Read key s r
has_touched r key s l h =
    sym (ap (λ (p : Result Bool StoErr × Left). p.1.1) h) ∙ has_left (admits s.declared kinds.Read key) (seen s.n s.map key) key s
    ∙ ap (λ (p : Result Bool StoErr × Left). touched_after Read key s p.0) h

-- what a look-up tells that was allowed
has_tells : (r : Result Bool StoErr) (key : LedgerKey) (old new : Stored) (w : World) → has_act key old ≡ (r, left new) → touched_after Read key old r ≡ noted' old.declared kinds.Read key old.touched → IsRead old new
    → Tells old new w.trace (noted Read key w).trace
has_tells r key old new w h is same = tells_access old new Read key w.meter.used w.trace (same_declared old new same) (has_touched r key old (left new) h ∙ is)

pub there_found : (there : Bool) (key : LedgerKey) (s t : Stored) → key_format.fits key → (let found : Result Bool StoErr = Ok there in Reads (has_act key) found s t)
    → (let q : Result Bool HostErr = Ok there in Accesses q (λ b. b) (λ env. access env Read key is_there) s t)
there_found there key s t fits h env serves w i =
    let q : Result Bool HostErr = Ok there in
    subst (λ (out : Out Bool). Says q (λ b. b) out (leaving s t w.trace (λ trace. record w { entries = t.map; trace = trace })))
    (sym (had_is key s fits env serves w i ∙ ap (λ (p : Result Bool StoErr × Left). at_had p.0 key w) h.0))
    (has_tells (Ok there) key s t w h.0 refl h.1, rw (same_map s t h.1, ← i) refl)

pub there_refused : (e : StoErr) (x : HostErr) (key : LedgerKey) (s t : Stored) → key_format.fits key → x ≡ end_of key e → (let none : Result Bool StoErr = Err e in Reads (has_act key) none s t)
    → (let q : Result Bool HostErr = Err x in Accesses q (λ b. b) (λ env. access env Read key is_there) s t)
there_refused e x key s t fits is h env serves w i =
    subst (λ (y : HostErr). let q : Result Bool HostErr = Err y in Says q (λ b. b) (access env Read key is_there w) (leaving s t w.trace (λ trace. record w { entries = t.map; trace = trace }))) (sym is)
    (let q : Result Bool HostErr = Err (end_of key e) in
    subst (λ (out : Out Bool). Says q (λ b. b) out (leaving s t w.trace (λ trace. record w { entries = t.map; trace = trace }))) (sym (had_is key s fits env serves w i)) (at e h))
  where
    at : (e : StoErr) → (let none : Result Bool StoErr = Err e in Reads (has_act key) none s t)
        → (let q : Result Bool HostErr = Err (end_of key e) in Says q (λ b. b) (at_had (has_act key s).0 key w) (leaving s t w.trace (λ trace. record w { entries = t.map; trace = trace })))
    at err.Undeclared h = rw h.0 (tells_still s t w.trace (same_declared s t h.1) (has_touched (Err err.Undeclared) key s (left t) h.0), refl, refl)
    at err.Archived h = rw h.0 (has_tells (Err err.Archived) key s t w h.0 refl h.1, refl, refl, refl)
    at err.Missing h = rw h.0 (has_tells (Err err.Missing) key s t w h.0 refl h.1, rw (same_map s t h.1, ← i) refl)
    at (err.BadExtend e) h = rw h.0 (has_tells (Err (err.BadExtend e)) key s t w h.0 refl h.1, rw (same_map s t h.1, ← i) refl)
    at err.NoMemory h = tt
