-- The run of a host function with the charge for its value, and what becomes of the operation.
use Rattle.std.specs.Prelude.{IsSomeAnd}
use Rattle.std.specs.FinMap.{get, same_map}
use Rattle.std.specs.Cmp.Lexicographic.{nat_list_cmp_total}
use Rattle.std.proofs.Common.{◌≡◌, ℕ, Bool, true, false, List, [], reverse, Option, Some, None, Result, Ok, Err, IfSome, refl, sym, ap, subst, ◌∙◌}
use Rattle.budget_meter.specs.Meter.{Meter}
use Rattle.budget_meter.specs.declared.kind.Kind.TheVariants.{ValSer}
use Rattle.value_types.specs.Datum.{Datum}
use Rattle.value_types.specs.Views.{datum, scval}
use Rattle.value_types.proofs.Lemmas.{scval-datum}
use Rattle.value_types.specs.declared.value.ScVal.{ScVal}
use Rattle.ledger_types.specs.declared.header.Header.{Header}
use Rattle.invoke_types.specs.declared.event.ContractEvent.{ContractEvent}
use Rattle.tx_xdr.specs.declared.transaction.SorobanData.{SorobanData}
use Rattle.tx_results.specs.declared.operation.InvokeResult.TheVariants.{Trapped, ResourceLimitExceeded}
use Rattle.ledger_spec.specs.LedgerMap.{LedgerMap}
use Rattle.contract_storage.proofs.Lemmas.{antisymmetric}
use Rattle.host_spec.specs.Acts as values
use Rattle.host_spec.specs.Hosted.{size_of}
use Rattle.host_spec.specs.Ends.{host_end}
use Rattle.host_spec.specs.declared.error.ValueErr.{ValueErr}
use Rattle.host_spec.specs.declared.error.ValueErr.TheVariants as errs
use Rattle.host_spec.specs.declared.error.HostErr.{HostErr}
use Rattle.host_spec.specs.declared.error.HostErr.TheVariants as ends
use Rattle.call_spec.specs.World.{Read, Judge, Access, outside, World, Authority, Env}
use Rattle.call_spec.specs.Acts.{Failure, Failed, Spent, Archived, Out, Good, Bad, Undeclared, Act, world_of, then_do, after, gives, lifted}
use Rattle.call_spec.specs.Calling.{restored, undone}
use Rattle.call_spec.specs.Footprints.{by_footprint, first_rejected}
use Rattle.call_spec.specs.HostFunctions.{MOST_FRAMES, opener_of}
use Rattle.call_spec.specs.Entering.{entering}
use Rattle.call_spec.specs.WholeRuns.{Work, arguments_in, does, meter_of, start_of, all_allowed, run_under, done_under, whole}
use Rattle.call_spec.specs.Invoked.{Invoked, unsuccessful, by_writes, by_end, by_trace, by_run}
use Rattle.call_spec.specs.Laws.{Maps}
use Rattle.contract_storage.specs.Footprint.{IsFootprint}
use Rattle.contract_storage.specs.Stored.{Stored}
use Rattle.auth_spec.specs.Authorities.{Authorised}
use Rattle.contract_call.specs.Worlds.{authority_of, world_around}
use Rattle.contract_call.specs.Ended.{IsEnd, EndsBy}
use Rattle.contract_call.specs.Host.{Host}
use Rattle.contract_call.specs.Entering.{with_meter, Passes, Stops, Enters}
use Rattle.tx_steps.specs.CallResults.{result_of, outcome_with}
use Rattle.tx_apply.specs.Running.{charging, EndsCharged, entered_run}

-- ---- the arguments, the work, the charge

module _ (n : ℕ) (resources : SorobanData) (old : LedgerMap) where
  -- what a failure puts back does not show
  undone_same : (before : World) (x : Out Datum) → by_run n resources old (then_do (undone before x) charging) ≡ by_run n resources old (then_do x charging)
  undone_same before (Good d w) = refl
  undone_same before (Bad (Failed e) w) = at (first_rejected (by_footprint resources.footprint) w.trace)
    where
      at : (first : Option Access) → by_trace n resources old first (Bad (Failed e) (restored before w)) ≡ by_trace n resources old first (Bad (Failed e) w)
      at (Some a) = refl
      at None = refl
  undone_same before (Bad Spent w) = refl
  undone_same before (Bad (Archived key) w) = refl
  undone_same before (Undeclared a w) = refl

  module _ (header : Header) (authority : Authority) (work : Work) (before later : Meter) (is : before ≡ meter_of header resources.instructions) where
    abbrev start : World
    start = start_of header resources.instructions old

    abbrev acting : Act Datum
    acting = let env : Env = record { header = header; authority = authority; judge = all_allowed } in does env (opener_of env MOST_FRAMES) work

    pub whole_entered : Passes {A = Datum} (entering (arguments_in work)) before later → by_run n resources old (whole header authority resources.instructions work old) ≡ by_run n resources old (entered_run header authority later work old)
    unfolding run_under done_under
    whole_entered passes =
        ap (λ (o : Out Datum). by_run n resources old (then_do o charging)) (passes acting start (sym is))
        ∙ sym (undone_same (with_meter later start) (acting (with_meter later start)))

    pub whole_stopped : (failure : Failure) → Stops {A = Datum} failure (entering (arguments_in work)) before later
        → by_run n resources old (whole header authority resources.instructions work old) ≡ by_end n resources old (Bad failure (with_meter later start))
    unfolding run_under
    whole_stopped failure stops = ap (λ (o : Out Datum). by_run n resources old (then_do o charging)) (stops acting start (sym is))

-- ---- the charge leaves the accesses as they are

then_traced : (w : World) (d : Datum) (o : values.Out (Unit {0})) → (world_of (then_do (lifted w o) (λ _. gives d))).trace ≡ w.trace
then_traced w d (values.Good a s) = refl
then_traced w d (values.Failed e s) = refl
then_traced w d (values.Spent s) = refl

charging_traced : (d : Datum) (w : World) → (world_of (charging d w)).trace ≡ w.trace
charging_traced d w = then_traced w d (values.charged ValSer (size_of d) (values.state w.frame.shown w.frame.memory w.meter))

pub charged_traced : (x : Out Datum) → (world_of (then_do x charging)).trace ≡ (world_of x).trace
charged_traced (Good d w) = charging_traced d w
charged_traced (Bad e w) = refl
charged_traced (Undeclared a w) = refl

-- ---- from a host at its start

module _ {G U V : Type 0} (old : Host G U V) where
  pub record Starts (header : Header) (authority : Authority) (meter : Meter) (entries : LedgerMap) : Type 0 where
    pub header-is : old.ledger.header.now ≡ header
    pub authority-is : authority_of old ≡ authority
    pub map-is : old.ledger.storage.map ≡ entries
    pub events-is : old.ledger.events ≡ []
    pub pairs-is : old.marks.pairs ≡ []
    pub noted-is : old.marks.noted ≡ None
    pub open-is : old.open.items ≡ []
    pub path-is : old.ledger.frame.path.items ≡ []
    pub begun-is : old.ledger.frame.begun ≡ 0
    pub meter-is : old.ledger.budget ≡ meter

  -- a host that was just made
  pub new_starts : (header : Header) (authority : Authority) (meter : Meter) (entries : LedgerMap) (stored : Stored) → old.ledger.storage ≡ stored → stored.map ≡ entries
      → old.marks ≡ record { entries = authority.entries; source = authority.source; pairs = []; noted = None } → old.verdicts.now ≡ authority.verdicts → old.ledger.header.now ≡ header
      → old.ledger.budget ≡ meter → old.ledger.events ≡ [] → old.open.items ≡ [] → old.ledger.frame.path.items ≡ [] → old.ledger.frame.begun ≡ 0
      → Starts header authority meter entries
  new_starts header authority meter entries stored storage map marks verdicts header-is budget events contracts path begun = record {
    header-is = header-is;
    authority-is = λ i. let a : Authority = record { entries = (marks i).entries; source = (marks i).source; verdicts = verdicts i } in a;
    map-is = ap (λ (s : Stored). s.map) storage ∙ map;
    events-is = events;
    pairs-is = ap (λ (m : Authorised). m.pairs) marks;
    noted-is = ap (λ (m : Authorised). m.noted) marks;
    open-is = contracts;
    path-is = path;
    begun-is = begun;
    meter-is = budget;
  }

  abbrev run_from : Header → Authority → World → Work → Out Datum
  run_from header authority w work = after (done_under all_allowed header authority work) charging w

  abbrev first : Header → LedgerMap → World
  first header entries = start_of header 0 entries

  pub start_same : (header : Header) (authority : Authority) (meter : Meter) (entries : LedgerMap) → Starts header authority meter entries
      → world_around (first header entries) old [] ≡ with_meter meter (first header entries)
  start_same header authority meter entries is = λ i. record (first header entries) {
    entries = is.map-is i;
    events = is.events-is i;
    pairs = is.pairs-is i;
    noted = is.noted-is i;
    frame = record outside { path = is.path-is i; begun = is.begun-is i };
    contracts = reverse (is.open-is i);
    meter = is.meter-is i;
  }

  -- its run is the whole run after the arguments have entered
  pub started_same : (header : Header) (authority : Authority) (meter : Meter) (entries : LedgerMap) (work : Work) → Starts header authority meter entries
      → run_from old.ledger.header.now (authority_of old) (world_around (first header entries) old []) work ≡ entered_run header authority meter work entries
  started_same header authority meter entries work is =
      let around = world_around (first header entries) old [] in
      ap (λ (x : Header). run_from x (authority_of old) around work) is.header-is
      ∙ ap (λ (a : Authority). run_from header a around work) is.authority-is
      ∙ ap (λ (w : World). run_from header authority w work) (start_same header authority meter entries is)

-- ---- the outcome

module _ {G U V : Type 0} (n : ℕ) (resources : SorobanData) (old new : Host G U V) where
  -- what the program makes of its result over this map is what becomes of the operation
  abbrev pub Comes : LedgerMap → Result ScVal HostErr → Invoked → Type 0
  Comes m (Ok v) end = outcome_with n resources m v new.ledger.storage.map new.ledger.events new.ledger.budget.used ≡ end
  Comes m (Err e) end = IfSome (result_of e) (λ r. unsuccessful r m new.ledger.budget.used ≡ end)

  abbrev before : LedgerMap
  before = old.ledger.storage.map

  same_entries : (may : Judge) (m p q : LedgerMap) → Maps may m m p q → q ≡ p
  same_entries may m p q maps = same_map nat_list_cmp_total antisymmetric q p (λ k. at k (may Read k) refl)
    where
      at : (k : List ℕ) (b : Bool) → may Read k ≡ b → get q k ≡ get p k
      at k true e = sym (maps.agree k e)
      at k false e = maps.right k e ∙ sym (maps.left k e)

  returned : (may : Judge) (b : Datum) (w : World) (v : ScVal) → (let given : Result ScVal HostErr = Ok v in IsEnd may before (Good b w) given datum old new)
      → outcome_with n resources before v new.ledger.storage.map new.ledger.events new.ledger.budget.used ≡ by_writes n resources before b w
  returned may b w v h =
      let value : v ≡ scval b = sym (scval-datum v) ∙ sym (ap scval h.0) in
      ap (λ (x : ScVal). outcome_with n resources before x new.ledger.storage.map new.ledger.events new.ledger.budget.used) value
      ∙ ap (λ (x : LedgerMap). outcome_with n resources before (scval b) x new.ledger.events new.ledger.budget.used) (same_entries may before w.entries new.ledger.storage.map h.5)
      ∙ ap (λ (x : List ContractEvent). outcome_with n resources before (scval b) w.entries x new.ledger.budget.used) h.2
      ∙ ap (λ (x : Meter). outcome_with n resources before (scval b) w.entries w.events x.used) h.1

  end_comes : (may : Judge) (out : Out Datum) (r : Result ScVal HostErr) → IsEnd may before out r datum old new → Comes before r (by_end n resources before out)
  end_comes may (Good b w) (Ok v) h = returned may b w v h
  end_comes may (Bad (Failed e) w) (Err (ends.Failed d)) h = ap (λ (x : Meter). unsuccessful Trapped before x.used) h.1
  end_comes may (Bad Spent w) (Err ends.Spent) h = ap (λ (x : Meter). unsuccessful ResourceLimitExceeded before x.used) h.0
  end_comes may (Bad (Archived key) w) (Err (ends.Archived k)) h = ap (λ (x : Meter). unsuccessful Trapped before x.used) h.1
  end_comes may _ (Err ends.NoMemory) h = tt
  end_comes may _ _ h = absurd h

  trace_comes : (may : Judge) (first : Option Access) (out : Out Datum) (r : Result ScVal HostErr) → EndsBy may before first out r datum old new → Comes before r (by_trace n resources before first out)
  trace_comes may (Some a) out (Err (ends.Undeclared key)) h = ap (unsuccessful Trapped before) h.1
  trace_comes may (Some a) out (Err ends.NoMemory) h = tt
  trace_comes may (Some a) out _ h = absurd h
  trace_comes may None out r h = end_comes may out r h

  run_comes : (out : Out Datum) (r : Result ScVal HostErr)
      → EndsBy (by_footprint resources.footprint) before (first_rejected (by_footprint resources.footprint) (world_of out).trace) out r datum old new → Comes before r (by_run n resources before out)
  run_comes out r h = trace_comes (by_footprint resources.footprint) (first_rejected (by_footprint resources.footprint) (world_of out).trace) out r h

  pub started_comes : (header : Header) (authority : Authority) (meter : Meter) (entries : LedgerMap) (work : Work) (r : Result ScVal HostErr)
      → Starts old header authority meter entries
      → IsSomeAnd old.ledger.storage.declared (IsFootprint resources.footprint.read_only resources.footprint.read_write) → EndsCharged work r old new
      → Comes entries r (by_run n resources entries (entered_run header authority meter work entries))
  started_comes header authority meter entries work r is declared h =
      let start = start_of header 0 entries in
      subst (λ (m : LedgerMap). Comes m r (by_run n resources m (entered_run header authority meter work entries))) is.map-is
      (subst (λ (out : Out Datum). Comes before r (by_run n resources before out)) (started_same old header authority meter entries work is)
      (run_comes (after (done_under all_allowed old.ledger.header.now (authority_of old) work) charging (world_around start old [])) r (h resources.footprint declared start)))

-- ---- arguments that do not enter

module _ (n : ℕ) (resources : SorobanData) (old : LedgerMap) (header : Header) (authority : Authority) (work : Work) (before later : Meter) (is : before ≡ meter_of header resources.instructions) where
  pub stopped_comes : (e : ValueErr) → (let r : Result (Unit {0}) ValueErr = Err e in Enters {A = Datum} r (entering (arguments_in work)) before later)
      → IfSome (result_of (host_end e)) (λ r. unsuccessful r old later.used ≡ by_run n resources old (whole header authority resources.instructions work old))
  stopped_comes (errs.Failed error) h = sym (whole_stopped n resources old header authority work before later is (Failed error) h)
  stopped_comes errs.Spent h = sym (whole_stopped n resources old header authority work before later is Spent h)
  stopped_comes errs.NoMemory h = tt

-- ---- the budget at the start

pub meter_is : (header : Header) (instructions : ℕ) (m : Meter) → m.limits ≡ record { instructions = instructions; memory = header.settings.memory_limit } → m.terms ≡ header.settings.terms
    → m.used ≡ record { instructions = 0; memory = 0 } → m ≡ meter_of header instructions
meter_is header instructions m a b d = λ i. record { limits = a i; terms = b i; used = d i }
