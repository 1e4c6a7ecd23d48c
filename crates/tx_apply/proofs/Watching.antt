-- What an observer has seen after a run.
use Rattle.std.specs.Prelude.{IsSomeAnd}
use Rattle.std.proofs.Common.{◌≡◌, ◌≢◌, ℕ, Bool, List, [], ◌∷◌, Option, Some, None, Result, Ok, Err, IfOk, refl, sym, ap, subst, ◌∙◌}
use Rattle.budget_meter.specs.Meter.{Meter}
use Rattle.value_types.specs.Datum.{Datum}
use Rattle.value_types.specs.declared.value.ScVal.{ScVal}
use Rattle.ledger_types.specs.Key.{key_format}
use Rattle.ledger_types.specs.declared.key.LedgerKey.{LedgerKey}
use Rattle.ledger_types.specs.declared.header.Header.{Header}
use Rattle.ledger_spec.specs.LedgerMap.{LedgerMap, key_bytes}
use Rattle.tx_xdr.specs.declared.transaction.Footprint.{Footprint}
use Rattle.tx_xdr.specs.declared.transaction.SorobanData.{SorobanData}
use Rattle.xdr_core.specs.declared.error.NoMemory.{NoMemory}
use Rattle.contract_storage.specs.Footprint.{IsFootprint, allows}
use Rattle.contract_storage.specs.Stored.{Stored}
use Rattle.contract_storage.specs.Touched.{Known, admits}
use Rattle.contract_storage.specs.Watched.{Seen, see}
use Rattle.contract_storage.specs.declared.access.Access.TheVariants as accesses
use Rattle.host_spec.specs.Ends.{host_end}
use Rattle.host_spec.specs.declared.error.ValueErr.{ValueErr}
use Rattle.host_spec.specs.declared.error.ValueErr.TheVariants as errs
use Rattle.host_spec.specs.declared.error.HostErr.{HostErr}
use Rattle.host_spec.specs.declared.error.HostErr.TheVariants as ends
use Rattle.call_spec.specs.World.{AccessKind, Read, Extend, Write, Judge, Access, World, Authority, Env}
use Rattle.call_spec.specs.Acts.{Failure, Failed, Spent, Archived, Out, Good, Bad, Undeclared, Act, world_of, then_do}
use Rattle.call_spec.specs.Calling.{undone}
use Rattle.call_spec.specs.Entering.{entering}
use Rattle.call_spec.specs.Footprints.{by_footprint}
use Rattle.call_spec.specs.HostFunctions.{MOST_FRAMES, opener_of}
use Rattle.call_spec.specs.Outcomes.{Leaves, Says, trace_of}
use Rattle.call_spec.specs.WholeRuns.{Work, arguments_in, does, meter_of, start_of, run_under, done_under}
use Rattle.contract_call.specs.Traced.{kind_of, known_of, IsTold}
use Rattle.contract_call.specs.Ended.{UnlessMemory}
use Rattle.contract_call.specs.Worlds.{DoesAround, MayRun, authority_of, leaving_by, world_around}
use Rattle.contract_call.specs.Host.{Host}
use Rattle.contract_call.specs.Entering.{with_meter, Passes, Stops, Enters}
use Rattle.tx_apply.specs.Running.{charging}
use Rattle.tx_apply.specs.Watching.{seen_of, HasSeen, run_accesses, entered_accesses, Told}
use Rattle.tx_steps.specs.declared.results.TransactionDone.{TransactionDone}
use Rattle.tx_apply.proofs.Running.{Starts, start_same, charged_traced}

-- ---- what the storage knows

-- An observer has seen the accesses that its storage knows.
seen_known : (declared : Option (List (LedgerKey × Bool))) (limit : ℕ) (trace : List Access) → (known_of declared limit trace).seen ≡ seen_of limit trace
seen_known declared limit [] = refl
seen_known declared limit (a ∷ older) = ap (see (kind_of a.kind) a.key) (seen_known declared limit older)

told_seen : (s : Stored) (trace : List Access) → IsTold s trace → HasSeen s.touched.seen trace
told_seen s trace told = ap (λ (k : Known). k.seen) told ∙ seen_known s.declared s.touched.seen.limit trace

-- ---- works

told_unless : {A B : Type 0} (r : Result A HostErr) (view : A → B) (out : Out B) (left : Leaves) (P : Type 0) → (left.told (trace_of out) → P) → Says r view out left → UnlessMemory r P
told_unless (Ok a) view out left P k h = k h.0
told_unless (Err (ends.Failed e)) view out left P k h = k h.0
told_unless (Err ends.Spent) view out left P k h = k h.0
told_unless (Err (ends.Archived key)) view out left P k h = k h.0
told_unless (Err (ends.Undeclared key)) view out left P k h = k h.0
told_unless (Err ends.NoMemory) view out left P k h = tt

unless_known : {A : Type 0} (r : Result A HostErr) (P : Type 0) → P → UnlessMemory r P
unless_known (Ok a) P p = p
unless_known (Err (ends.Failed d)) P p = p
unless_known (Err ends.Spent) P p = p
unless_known (Err (ends.Archived key)) P p = p
unless_known (Err (ends.Undeclared key)) P p = p
unless_known (Err ends.NoMemory) P p = tt

module _ {G U V : Type 0} (work : Work) (old new : Host G U V) where
  pub told_does : {A : Type 0} (r : Result A HostErr) (view : A → Datum) → DoesAround r view (λ env. done_under env.judge env.header env.authority work) old new → Told work r old new
  told_does r view acts env is rest trace told =
      let out = done_under env.judge env.header env.authority work (world_around rest old trace) in
      told_unless r view out (leaving_by old new trace (world_around rest new)) (IsTold new.ledger.storage (world_of out).trace) (λ tells. tells told) (acts env is rest trace)

  -- the charge for a value
  pub told_charged : {A B : Type 0} (after : Meter) (a : A) (r : Result B HostErr) → (let ok : Result A HostErr = Ok a in Told work ok old new)
      → Told work r old (record new { ledger = record new.ledger { budget = after } })
  told_charged after a r h env is rest trace told = unless_known r _ (h env is rest trace told)

-- ---- from a host at its start

judges : (footprint : Footprint) (declared : List (LedgerKey × Bool)) → IsFootprint footprint.read_only footprint.read_write declared → (kind : AccessKind) (key : LedgerKey) → key_format.fits key
    → allows declared (kind_of kind) key ≡ by_footprint footprint kind (key_bytes key)
judges footprint declared is Read key fits = is accesses.Read key fits
judges footprint declared is Extend key fits = is accesses.Extend key fits
judges footprint declared is Write key fits = is accesses.Write key fits

judges_declared : (footprint : Footprint) (declared : Option (List (LedgerKey × Bool))) → IsSomeAnd declared (IsFootprint footprint.read_only footprint.read_write)
    → (kind : AccessKind) (key : LedgerKey) → key_format.fits key → admits declared (kind_of kind) key ≡ by_footprint footprint kind (key_bytes key)
judges_declared footprint None is kind key fits = absurd is
judges_declared footprint (Some declared) is kind key fits = judges footprint declared is kind key fits

module _ {G U V : Type 0} (old new : Host G U V) (header : Header) (authority : Authority) (meter : Meter) (entries : LedgerMap) (work : Work) (starts : Starts old header authority meter entries) where
  abbrev trace_from : Judge → Header → Authority → World → List Access
  trace_from judge h a w = (world_of (done_under judge h a work w)).trace

  trace_same : (judge : Judge) → trace_from judge old.ledger.header.now (authority_of old) (world_around (start_of header 0 entries) old []) ≡ entered_accesses judge header authority meter work entries
  trace_same judge =
      let around = world_around (start_of header 0 entries) old [] in
      ap (λ (x : Header). trace_from judge x (authority_of old) around) starts.header-is
      ∙ ap (λ (a : Authority). trace_from judge header a around) starts.authority-is
      ∙ ap (λ (w : World). trace_from judge header authority w) (start_same old header authority meter entries starts)

  -- the observer after the run of a host that enforces a footprint
  pub run_seen : (footprint : Footprint) → IsSomeAnd old.ledger.storage.declared (IsFootprint footprint.read_only footprint.read_write) → MayRun old → IsTold old.ledger.storage []
      → {A : Type 0} (r : Result A HostErr) → Told work r old new
      → UnlessMemory r (HasSeen new.ledger.storage.touched.seen (entered_accesses (by_footprint footprint) header authority meter work entries))
  run_seen footprint declared ready fresh r told =
      let may = by_footprint footprint in
      let env : Env = record { header = old.ledger.header.now; authority = authority_of old; judge = may } in
      unless_mapped r _ _
      (λ known. subst (HasSeen new.ledger.storage.touched.seen) (trace_same may) (told_seen new.ledger.storage _ known))
      (told env (record {
        ledger = record { header = refl; serves = record { number = ready.ledger.number; lives = ready.ledger.lives; judge = judges_declared footprint old.ledger.storage.declared declared } };
        authority = refl;
      }) (start_of header 0 entries) [] fresh)
    where
      unless_mapped : {A : Type 0} (r : Result A HostErr) (P Q : Type 0) → (P → Q) → UnlessMemory r P → UnlessMemory r Q
      unless_mapped (Ok a) P Q k p = k p
      unless_mapped (Err (ends.Failed d)) P Q k p = k p
      unless_mapped (Err ends.Spent) P Q k p = k p
      unless_mapped (Err (ends.Archived key)) P Q k p = k p
      unless_mapped (Err (ends.Undeclared key)) P Q k p = k p
      unless_mapped (Err ends.NoMemory) P Q k p = tt

-- ---- the arguments

undone_traced : (before : World) (x : Out Datum) → (world_of (undone before x)).trace ≡ (world_of x).trace
undone_traced before (Good d w) = refl
undone_traced before (Bad (Failed e) w) = refl
undone_traced before (Bad Spent w) = refl
undone_traced before (Bad (Archived key) w) = refl
undone_traced before (Undeclared a w) = refl

module _ (header : Header) (authority : Authority) (resources : SorobanData) (map : LedgerMap) (work : Work) (before later : Meter) (is : before ≡ meter_of header resources.instructions) where
  abbrev start : World
  start = start_of header resources.instructions map

  abbrev acting : Act Datum
  acting =
      let env : Env = record { header = header; authority = authority; judge = by_footprint resources.footprint } in
      does env (opener_of env MOST_FRAMES) work

  pub entered_seen : Passes {A = Datum} (entering (arguments_in work)) before later
      → entered_accesses (by_footprint resources.footprint) header authority later work map ≡ run_accesses header authority resources map work
  unfolding run_under done_under
  entered_seen passes =
      undone_traced (with_meter later start) (acting (with_meter later start))
      ∙ sym (charged_traced (acting (with_meter later start)))
      ∙ sym (ap (λ (o : Out Datum). (world_of (then_do o charging)).trace) (passes acting start (sym is)))

  stopped : (failure : Failure) → Stops {A = Datum} failure (entering (arguments_in work)) before later → run_accesses header authority resources map work ≡ []
  unfolding run_under
  stopped failure stops = ap (λ (o : Out Datum). (world_of (then_do o charging)).trace) (stops acting start (sym is))

  -- A run whose arguments do not enter makes no access.
  pub stopped_seen : (e : ValueErr) → (let r : Result (Unit {0}) ValueErr = Err e in Enters {A = Datum} r (entering (arguments_in work)) before later) → host_end e ≢ ends.NoMemory
      → run_accesses header authority resources map work ≡ []
  stopped_seen (errs.Failed error) h n = stopped (Failed error) h
  stopped_seen errs.Spent h n = stopped Spent h
  stopped_seen errs.NoMemory h n = absurd (n refl)

-- ---- results

module _ {W : Type 0} (seen : W → Seen) where
  pub seen_after : (r : Result (TransactionDone W) NoMemory) (s : Seen) (trace : List Access) → HasSeen s trace → IfOk r (λ done. seen done.watch ≡ s) → IfOk r (λ done. HasSeen (seen done.watch) trace)
  seen_after (Ok done) s trace h is = subst (λ (x : Seen). HasSeen x trace) (sym is) h
  seen_after (Err e) s trace h is = tt

  pub seen_as : (r : Result (TransactionDone W) NoMemory) (a b : List Access) → a ≡ b → IfOk r (λ done. HasSeen (seen done.watch) a) → IfOk r (λ done. HasSeen (seen done.watch) b)
  seen_as (Ok done) a b is h = subst (HasSeen (seen done.watch)) is h
  seen_as (Err e) a b is h = tt

  -- of a run that ended without a value
  pub seen_ended : (r : Result (TransactionDone W) NoMemory) (w : W) (end : HostErr) (trace : List Access) → (let none : Result ScVal HostErr = Err end in UnlessMemory none (HasSeen (seen w) trace))
      → IfOk r (λ done. done.watch ≡ w) → IfOk r (λ done. end ≢ ends.NoMemory) → IfOk r (λ done. HasSeen (seen done.watch) trace)
  seen_ended (Err e) w end trace h is n = tt
  seen_ended (Ok done) w (ends.Failed d) trace h is n = subst (λ (x : W). HasSeen (seen x) trace) (sym is) h
  seen_ended (Ok done) w ends.Spent trace h is n = subst (λ (x : W). HasSeen (seen x) trace) (sym is) h
  seen_ended (Ok done) w (ends.Archived key) trace h is n = subst (λ (x : W). HasSeen (seen x) trace) (sym is) h
  seen_ended (Ok done) w (ends.Undeclared key) trace h is n = subst (λ (x : W). HasSeen (seen x) trace) (sym is) h
  seen_ended (Ok done) w ends.NoMemory trace h is n = absurd (n refl)

  -- of a call whose arguments did not enter
  pub seen_stopped : (r : Result (TransactionDone W) NoMemory) (w : W) (end : HostErr) (trace : List Access) → (end ≢ ends.NoMemory → trace ≡ []) → HasSeen (seen w) []
      → IfOk r (λ done. done.watch ≡ w) → IfOk r (λ done. end ≢ ends.NoMemory) → IfOk r (λ done. HasSeen (seen done.watch) trace)
  seen_stopped (Ok done) w end trace none fresh is n = subst (HasSeen (seen done.watch)) (sym (none n)) (subst (λ (x : W). HasSeen (seen x) []) (sym is) fresh)
  seen_stopped (Err e) w end trace none fresh is n = tt
