-- How a work ends, beside its run over all entries of the ledger.
use Rattle.std.specs.Prelude.{IsSomeAnd}
use Rattle.std.specs.Option.{option_or}
use Rattle.std.proofs.Common.{◌≡◌, List, [], ◌∷◌, Bool, true, false, Option, Some, None, Result, Ok, Err, refl, sym, ap, ◌∙◌, subst}
use Rattle.value_types.specs.Datum.{Datum}
use Rattle.value_types.specs.declared.error.ScError.{ScError}
use Rattle.ledger_types.specs.Key.{key_format}
use Rattle.ledger_types.specs.declared.key.LedgerKey.{LedgerKey}
use Rattle.ledger_types.specs.declared.header.Header.{Header}
use Rattle.ledger_spec.specs.LedgerMap.{LedgerMap, key_bytes}
use Rattle.tx_xdr.specs.declared.transaction.Footprint.{Footprint}
use Rattle.host_spec.specs.declared.error.HostErr.{HostErr}
use Rattle.host_spec.specs.declared.error.HostErr.TheVariants as ends
use Rattle.contract_storage.specs.Footprint.{IsFootprint, allows}
use Rattle.contract_storage.specs.Touched.{admits}
use Rattle.contract_storage.specs.declared.access.Access.TheVariants as accesses
use Rattle.call_spec.specs.World.{AccessKind, Read, Extend, Write, Access, Judge, World, Authority, Env}
use Rattle.call_spec.specs.Acts.{Failure, Failed, Spent, Archived, Out, Good, Bad, Undeclared, world_of}
use Rattle.call_spec.specs.Calling.{undone}
use Rattle.call_spec.specs.Footprints.{by_footprint, first_rejected}
use Rattle.call_spec.specs.Laws.{Maps, AlikeWorlds, AlikeEnds, Stops}
use Rattle.call_spec.specs.Outcomes.{Leaves, Says, trace_of}
use Rattle.call_spec.specs.WholeRuns.{Work, all_allowed, done_under}
use Rattle.call_spec.proofs.Lemmas.{Same, done_local, end_to_end_law, unwatched, unwatched_fair}
use Rattle.host_ledger.specs.Traced.{kind_of, known_of, IsRecorded, Tells}
use Rattle.host_ledger.proofs.Lemmas.{retold}
use Rattle.contract_call.specs.Ended.{IsEnd, EndsBy, Ends, UnlessMemory, EndsRecorded}
use Rattle.call_host.specs.Worlds.{world_around, authority_of, leaving_by, DoesAround, MayRun}
use Rattle.call_host.specs.declared.host.Host.{Host}

-- ---- outcomes that differ

bad_good : {x : Failure} {a : Datum} {v u : World} → Bad x v ≡ Good a u → ⊥
bad_good p = cc

bad_undeclared : {x : Failure} {a : Access} {v u : World} → (let o : Out Datum = Bad x v in o ≡ Undeclared a u) → ⊥
bad_undeclared p = cc

good_bad : {x : Failure} {a : Datum} {v u : World} → Good a v ≡ Bad x u → ⊥
good_bad p = cc

good_undeclared : {a : Datum} {b : Access} {v u : World} → Good a v ≡ Undeclared b u → ⊥
good_undeclared p = cc

undeclared_good : {a : Access} {b : Datum} {v u : World} → Undeclared a v ≡ Good b u → ⊥
undeclared_good p = cc

undeclared_bad : {a : Access} {x : Failure} {v u : World} → (let o : Out Datum = Undeclared a v in o ≡ Bad x u) → ⊥
undeclared_bad p = cc

same_access : {a b : Access} {v u : World} → (let o : Out Datum = Undeclared a v in o ≡ Undeclared b u) → a ≡ b
same_access p = cc

same_value : {a b : Datum} {v u : World} → Good a v ≡ Good b u → a ≡ b
same_value p = cc

same_failure : {x y : Failure} {v u : World} → (let o : Out Datum = Bad x v in o ≡ Bad y u) → x ≡ y
same_failure p = cc

same_error : {x y : ScError} → Failed x ≡ Failed y → x ≡ y
same_error p = cc

same_key : {x y : LedgerKey} → Archived x ≡ Archived y → x ≡ y
same_key p = cc

-- ---- an end at an access that is not declared

-- how the program says the end, apart from what is known of the accesses
abbrev Said : {A G U V : Type 0} → Result A HostErr → (A → Datum) → Out Datum → World → Host G U V → Type 0
Said r view out rest new = let left : Leaves = record { world = world_around rest new; told = λ trace. Unit {0} } in Says r view out left

untold : {A G U V : Type 0} (r : Result A HostErr) (view : A → Datum) (out : Out Datum) (rest : World) (old new : Host G U V) (trace : List Access)
    → Says r view out (leaving_by old new trace (world_around rest new)) → Said r view out rest new
untold r view out rest old new trace says =
    retold r view out (world_around rest new) (Tells old.ledger.storage new.ledger.storage trace) (λ _. Unit {0}) (λ _ _. tt) says

stopped : {A G U V : Type 0} (may : Judge) (m : LedgerMap) (a s : Access) (one : Out Datum) (v rest : World) (r : Result A HostErr) (view : A → Datum) (old new : Host G U V) → s ≡ a → v.meter.used ≡ a.used
    → Said r view (Undeclared s v) rest new → EndsBy may m (Some a) one r view old new
stopped may m a s one v rest (Ok x) view old new same used says = absurd (undeclared_good says.1)
stopped may m a s one v rest (Err (ends.Failed e)) view old new same used says = absurd (undeclared_bad says.1)
stopped may m a s one v rest (Err ends.Spent) view old new same used says = absurd (undeclared_bad says.1)
stopped may m a s one v rest (Err (ends.Archived key)) view old new same used says = absurd (undeclared_bad says.1)
stopped may m a s one v rest (Err (ends.Undeclared key)) view old new same used says =
    (ap (λ (x : Access). x.key) (sym (same_access says.1) ∙ same), sym (ap (λ x. x.used) says.2) ∙ used)
stopped may m a s one v rest (Err ends.NoMemory) view old new same used says = tt

-- ---- ends of runs whose accesses are all declared

good_end : {A G U V : Type 0} (may : Judge) (m : LedgerMap) (a b : Datum) (w v rest : World) (r : Result A HostErr) (view : A → Datum) (old new : Host G U V) → a ≡ b → AlikeWorlds may m old.ledger.storage.map w v
    → Said r view (Good b v) rest new → IsEnd may m (Good a w) r view old new
good_end may m a b w v rest (Ok x) view old new same alike says =
    let is = ap world_of says.1 in (
      same ∙ same_value says.1,
      sym (ap (λ (u : World). u.meter) is) ∙ ap (λ (u : World). u.meter) alike.rest,
      sym (ap (λ (u : World). u.events) is) ∙ ap (λ (u : World). u.events) alike.rest,
      sym (ap (λ (u : World). u.pairs) is) ∙ ap (λ (u : World). u.pairs) alike.rest,
      sym (ap (λ (u : World). u.noted) is) ∙ ap (λ (u : World). u.noted) alike.rest,
      subst (λ (p : LedgerMap). Maps may m old.ledger.storage.map w.entries p) (ap (λ (u : World). u.entries) is) alike.maps,
    )
good_end may m a b w v rest (Err (ends.Failed e)) view old new same alike says = absurd (good_bad says.1)
good_end may m a b w v rest (Err ends.Spent) view old new same alike says = absurd (good_bad says.1)
good_end may m a b w v rest (Err (ends.Archived key)) view old new same alike says = absurd (good_bad says.1)
good_end may m a b w v rest (Err (ends.Undeclared key)) view old new same alike says = absurd (good_undeclared says.1)
good_end may m a b w v rest (Err ends.NoMemory) view old new same alike says = tt

-- the entries, the events and the authorisations that were used are as before
record IsBefore {G U V : Type 0} (old : Host G U V) (v : World) : Type 0 where
  pub entries : v.entries ≡ old.ledger.storage.map
  pub events : v.events ≡ old.ledger.events
  pub pairs : v.pairs ≡ old.marks.pairs

abbrev BackAtFailure : {G U V : Type 0} → Host G U V → Out Datum → Type 0
BackAtFailure old out = (e : ScError) (v : World) → out ≡ Bad (Failed e) v → IsBefore old v

bad_end : {A G U V : Type 0} (may : Judge) (m : LedgerMap) (d : Failure) (w v rest : World) (r : Result A HostErr) (view : A → Datum) (old new : Host G U V) → v.meter ≡ w.meter → v.noted ≡ w.noted → BackAtFailure old (Bad d v)
    → Said r view (Bad d v) rest new → IsEnd may m (Bad d w) r view old new
bad_end may m (Failed e) w v rest (Ok x) view old new paid noted back says = absurd (bad_good says.1)
bad_end may m (Failed e) w v rest (Err (ends.Failed c)) view old new paid noted back says =
    let is = ap world_of says.1 in
    let same : Failed e ≡ Failed c = same_failure says.1 in
    let before = back e v refl in (
      sym (same_error same),
      sym (ap (λ (u : World). u.meter) is) ∙ paid,
      sym (ap (λ (u : World). u.events) is) ∙ before.events,
      sym (ap (λ (u : World). u.pairs) is) ∙ before.pairs,
      sym (ap (λ (u : World). u.noted) is) ∙ noted,
      sym (ap (λ (u : World). u.entries) is) ∙ before.entries,
    )
bad_end may m (Failed e) w v rest (Err ends.Spent) view old new paid noted back says = let p : Failed e ≡ Spent = same_failure says.1 in absurd cc
bad_end may m (Failed e) w v rest (Err (ends.Archived key)) view old new paid noted back says = let p : Failed e ≡ Archived key = same_failure says.1 in absurd cc
bad_end may m (Failed e) w v rest (Err (ends.Undeclared key)) view old new paid noted back says = absurd (bad_undeclared says.1)
bad_end may m (Failed e) w v rest (Err ends.NoMemory) view old new paid noted back says = tt
bad_end may m Spent w v rest (Ok x) view old new paid noted back says = absurd (bad_good says.1)
bad_end may m Spent w v rest (Err (ends.Failed c)) view old new paid noted back says = let p : Spent ≡ Failed c = same_failure says.1 in absurd cc
bad_end may m Spent w v rest (Err ends.Spent) view old new paid noted back says = (sym says.2 ∙ paid, sym says.3 ∙ noted)
bad_end may m Spent w v rest (Err (ends.Archived key)) view old new paid noted back says = let p : Spent ≡ Archived key = same_failure says.1 in absurd cc
bad_end may m Spent w v rest (Err (ends.Undeclared key)) view old new paid noted back says = absurd (bad_undeclared says.1)
bad_end may m Spent w v rest (Err ends.NoMemory) view old new paid noted back says = tt
bad_end may m (Archived k) w v rest (Ok x) view old new paid noted back says = absurd (bad_good says.1)
bad_end may m (Archived k) w v rest (Err (ends.Failed c)) view old new paid noted back says = let p : Archived k ≡ Failed c = same_failure says.1 in absurd cc
bad_end may m (Archived k) w v rest (Err ends.Spent) view old new paid noted back says = let p : Archived k ≡ Spent = same_failure says.1 in absurd cc
bad_end may m (Archived k) w v rest (Err (ends.Archived key)) view old new paid noted back says = (sym (same_key (same_failure says.1)), sym says.2 ∙ paid, sym says.3 ∙ noted)
bad_end may m (Archived k) w v rest (Err (ends.Undeclared key)) view old new paid noted back says = absurd (bad_undeclared says.1)
bad_end may m (Archived k) w v rest (Err ends.NoMemory) view old new paid noted back says = tt

ended : {A G U V : Type 0} (may : Judge) (m : LedgerMap) (x : Option Access) (one cut : Out Datum) (rest : World) (r : Result A HostErr) (view : A → Datum) (old new : Host G U V) → BackAtFailure old cut
    → Stops may m old.ledger.storage.map x one cut → Said r view cut rest new → EndsBy may m x one r view old new
ended may m (Some a) one (Undeclared s v) rest r view old new back stops says = stopped may m a s one v rest r view old new stops.0 stops.1 says
ended may m (Some a) one (Good b v) rest r view old new back stops says = absurd stops
ended may m (Some a) one (Bad e v) rest r view old new back stops says = absurd stops
ended may m None (Good a w) (Good b v) rest r view old new back stops says = good_end may m a b w v rest r view old new stops.0 stops.1 says
ended may m None (Good a w) (Bad e v) rest r view old new back stops says = absurd stops
ended may m None (Good a w) (Undeclared s v) rest r view old new back stops says = absurd stops
ended may m None (Bad d w) (Good b v) rest r view old new back stops says = absurd stops
ended may m None (Bad d w) (Bad e v) rest r view old new back stops says =
    let same = sym stops.0 in
    bad_end may m d w v rest r view old new (ap (λ (u : World). u.meter) stops.1.rest) (ap (λ (u : World). u.noted) stops.1.rest) (subst (λ (x : Failure). BackAtFailure old (Bad x v)) same back) (subst (λ (x : Failure). Said r view (Bad x v) rest new) same says)
ended may m None (Bad d w) (Undeclared s v) rest r view old new back stops says = absurd stops
ended may m None (Undeclared s w) cut rest r view old new back stops says = absurd stops

-- ---- the whole

undone_back : {G U V : Type 0} (old : Host G U V) (w : World) → w.entries ≡ old.ledger.storage.map → w.events ≡ old.ledger.events → w.pairs ≡ old.marks.pairs → (out : Out Datum) → BackAtFailure old (undone w out)
undone_back old w i j k (Bad (Failed d) u) e v p =
    record { entries = sym (ap (λ o. (world_of o).entries) p) ∙ i; events = sym (ap (λ o. (world_of o).events) p) ∙ j; pairs = sym (ap (λ o. (world_of o).pairs) p) ∙ k }
undone_back old w i j k (Bad Spent u) e v p = let q : Spent ≡ Failed e = same_failure p in absurd cc
undone_back old w i j k (Bad (Archived key) u) e v p = let q : Archived key ≡ Failed e = same_failure p in absurd cc
undone_back old w i j k (Good a u) e v p = absurd (good_bad p)
undone_back old w i j k (Undeclared a u) e v p = absurd (undeclared_bad p)

done_back : {G U V : Type 0} (old : Host G U V) (may : Judge) (header : Header) (authority : Authority) (work : Work) (rest : World) (trace : List Access)
    → BackAtFailure old (done_under may header authority work (world_around rest old trace))
unfolding done_under
done_back old may header authority work rest trace = undone_back old (world_around rest old trace) refl refl refl _

judges : (footprint : Footprint) (declared : List (LedgerKey × Bool)) → IsFootprint footprint.read_only footprint.read_write declared → (kind : AccessKind) (key : LedgerKey) → key_format.fits key
    → allows declared (kind_of kind) key ≡ by_footprint footprint kind (key_bytes key)
judges footprint declared is Read key fits = is accesses.Read key fits
judges footprint declared is Extend key fits = is accesses.Extend key fits
judges footprint declared is Write key fits = is accesses.Write key fits

judges_declared : (footprint : Footprint) (declared : Option (List (LedgerKey × Bool))) → IsSomeAnd declared (IsFootprint footprint.read_only footprint.read_write)
    → (kind : AccessKind) (key : LedgerKey) → key_format.fits key → admits declared (kind_of kind) key ≡ by_footprint footprint kind (key_bytes key)
judges_declared footprint None is kind key fits = absurd is
judges_declared footprint (Some declared) is kind key fits = judges footprint declared is kind key fits

pub ends_so : {A G U V : Type 0} (work : Work) (r : Result A HostErr) (view : A → Datum) (old new : Host G U V) → MayRun old → DoesAround r view (λ env. done_under env.judge env.header env.authority work) old new → Ends work r view old new
ends_so work r view old new ready does footprint declared m agree rest =
    let may = by_footprint footprint in
    let header = old.ledger.header.now in
    let authority = authority_of old in
    let env : Env = record { header = header; authority = authority; judge = may } in
    let w = world_around rest old [] in
    let start : World = record w { entries = m } in
    let one = done_under all_allowed header authority work start in
    ended may m (first_rejected may (world_of one).trace) one (done_under may header authority work w) rest r view old new (done_back old may header authority work rest [])
    (end_to_end_law header authority work footprint start old.ledger.storage.map agree refl)
    (untold r view (done_under may header authority work w) rest old new [] (does env (record {
      ledger = record { header = refl; serves = record { number = ready.ledger.number; lives = ready.ledger.lives; judge = judges_declared footprint old.ledger.storage.declared declared } };
      authority = refl;
    }) rest []))

-- ---- over a storage that records

judges_all : (declared : Option (List (LedgerKey × Bool))) → declared ≡ None → (kind : AccessKind) (key : LedgerKey) → admits declared (kind_of kind) key ≡ true
judges_all declared none kind key = ap (λ (d : Option (List (LedgerKey × Bool))). admits d (kind_of kind) key) none

-- every map agrees with itself
same_maps : (m n p : LedgerMap) → Maps all_allowed m n p p
same_maps m n p = record { agree = λ q e. refl; left = λ key e. absurd cc; right = λ key e. absurd cc }

-- a judge that allows all rejects no access
none_rejected : (trace : List Access) → first_rejected all_allowed trace ≡ None
none_rejected [] = refl
none_rejected (a ∷ older) = ap (λ (x : Option Access). option_or x None) (none_rejected older)

-- and so it stops no run
never_stops : (header : Header) (authority : Authority) (work : Work) (w u : World) (a : Access) → done_under all_allowed header authority work w ≡ Undeclared a u → ⊥
never_stops header authority work w u a e =
    let maps : Maps all_allowed w.entries w.entries w.entries w.entries = same_maps w.entries w.entries w.entries in
    let out = done_under all_allowed header authority work w in
    let same : Same all_allowed w.entries w.entries out out =
    (done_local all_allowed w.entries w.entries (unwatched header) (λ kind key h. refl) header authority (unwatched_fair header) work).same w w.entries maps (none_rejected w.trace) in
    let stopped = subst (λ (o : Out Datum). Same all_allowed w.entries w.entries out o) e same in
    let rejected : true ≡ false = stopped.0 in absurd cc

-- a run that is never stopped ends as itself
alike_self : {B : Type 0} (m n : LedgerMap) (out : Out B) → ((a : Access) (u : World) → out ≡ Undeclared a u → ⊥) → AlikeEnds all_allowed m n out out
alike_self m n (Good b w) never = (refl, record { rest = refl; maps = same_maps m n w.entries })
alike_self m n (Bad e w) never = (refl, record { rest = refl; maps = same_maps m n w.entries })
alike_self m n (Undeclared a w) never = never a w refl

told_unless : {A B : Type 0} (r : Result A HostErr) (view : A → B) (out : Out B) (left : Leaves) (P : Type 0) → (left.told (trace_of out) → P) → Says r view out left → UnlessMemory r P
told_unless (Ok a) view out left P k h = k h.0
told_unless (Err (ends.Failed e)) view out left P k h = k h.0
told_unless (Err ends.Spent) view out left P k h = k h.0
told_unless (Err (ends.Archived key)) view out left P k h = k h.0
told_unless (Err (ends.Undeclared key)) view out left P k h = k h.0
told_unless (Err ends.NoMemory) view out left P k h = tt

pub recorded_so : {A G U V : Type 0} (work : Work) (r : Result A HostErr) (view : A → Datum) (old new : Host G U V) → MayRun old → new.ledger.storage.declared ≡ old.ledger.storage.declared
    → DoesAround r view (λ env. done_under env.judge env.header env.authority work) old new → EndsRecorded work r view old new
recorded_so work r view old new ready same does free rest trace told =
    let header = old.ledger.header.now in
    let authority = authority_of old in
    let env : Env = record { header = header; authority = authority; judge = all_allowed } in
    let w = world_around rest old trace in
    let out = done_under all_allowed header authority work w in
    let says = does env (record {
      ledger = record { header = refl; serves = record { number = ready.ledger.number; lives = ready.ledger.lives; judge = λ kind key fits. judges_all old.ledger.storage.declared free kind key } };
      authority = refl;
    }) rest trace in
    let never : (a : Access) (u : World) → out ≡ Undeclared a u → ⊥ = λ a u e. never_stops header authority work w u a e in (
      ended all_allowed old.ledger.storage.map None out out rest r view old new (done_back old all_allowed header authority work rest trace)
          (alike_self old.ledger.storage.map old.ledger.storage.map out never) (untold r view out rest old new trace says),
      told_unless r view out _ (IsRecorded new.ledger.storage (world_of out).trace)
          (λ tells. tells (told ∙ ap (λ d. known_of d old.ledger.storage.touched.seen.limit trace) (sym free))
          ∙ ap (λ d. known_of d new.ledger.storage.touched.seen.limit (world_of out).trace) (same ∙ free)) says,
    )
