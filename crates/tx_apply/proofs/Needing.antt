-- The needs of a host function, from its run over a storage that records.
use Rattle.std.proofs.Common.{◌≡◌, ◌≢◌, ℕ, false, [], None, Result, Ok, Err, IfOk, refl, sym, ap, ◌∙◌, subst}
use Rattle.xdr_core.specs.declared.error.NoMemory.{NoMemory}
use Rattle.budget_meter.specs.Meter.{Meter}
use Rattle.budget_meter.specs.declared.budget.Used.{Used}
use Rattle.value_types.specs.Datum.{Datum}
use Rattle.value_types.specs.Views.{datum}
use Rattle.value_types.specs.declared.value.ScVal.{ScVal}
use Rattle.ledger_types.specs.declared.header.Header.{Header}
use Rattle.tx_xdr.specs.declared.transaction.Footprint.{Footprint}
use Rattle.ledger_spec.specs.LedgerMap.{LedgerMap}
use Rattle.host_spec.specs.declared.error.ValueErr.{ValueErr}
use Rattle.host_spec.specs.declared.error.ValueErr.TheVariants as errs
use Rattle.host_spec.specs.declared.error.HostErr.{HostErr}
use Rattle.host_spec.specs.declared.error.HostErr.TheVariants as ends
use Rattle.call_spec.specs.World.{Judge, World, Authority, Env}
use Rattle.call_spec.specs.Acts.{Failure, Failed, Spent, Archived, Out, Good, Bad, Undeclared, Act, world_of, then_do, after}
use Rattle.call_spec.specs.Calling.{undone}
use Rattle.call_spec.specs.HostFunctions.{MOST_FRAMES, opener_of}
use Rattle.call_spec.specs.Entering.{entering}
use Rattle.call_spec.specs.WholeRuns.{Work, arguments_in, does, meter_of, start_of, all_allowed, run_under, done_under, whole}
use Rattle.contract_call.specs.Worlds.{authority_of, world_around}
use Rattle.contract_call.specs.Ended.{IsEnd, UnlessMemory}
use Rattle.contract_call.specs.Host.{Host}
use Rattle.contract_call.specs.Entering.{with_meter, Passes, Stops, Enters}
use Rattle.apply_spec.specs.Recorded.{footprint_by, no_footprint}
use Rattle.apply_spec.specs.Simulated.{Needs, needs_of}
use Rattle.tx_steps.specs.declared.needs.Needs as code
use Rattle.tx_apply.specs.Running.{charging, EndsChargedRecorded, entered_run}
use Rattle.tx_steps.specs.Needed.{needs_in}
use Rattle.tx_steps.specs.Touched.{touched_in}
use Rattle.tx_apply.specs.Recording.{ran_out}
use Rattle.tx_apply.proofs.Running.{Starts, started_same}
use Rattle.tx_apply.proofs.Recorded.{known_keys, footprint_same}
use Rattle.contract_storage.specs.Touched.{Known}
use Rattle.contract_call.specs.Traced.{IsRecorded}

-- ---- the end of a run

ended_used : {G U V : Type 0} (may : Judge) (m : LedgerMap) (old new : Host G U V) (out : Out Datum) (r : Result ScVal HostErr) → IsEnd may m out r datum old new → ran_out r ≡ false
    → new.ledger.budget.used ≡ (world_of out).meter.used
ended_used may m old new (Good b w) (Ok v) h n = ap (λ (x : Meter). x.used) h.1
ended_used may m old new (Bad (Failed f) w) (Err (ends.Failed d)) h n = ap (λ (x : Meter). x.used) h.1
ended_used may m old new (Bad Spent w) (Err ends.Spent) h n = ap (λ (x : Meter). x.used) h.0
ended_used may m old new (Bad (Archived key) w) (Err (ends.Archived k)) h n = ap (λ (x : Meter). x.used) h.1
ended_used may m old new _ (Err ends.NoMemory) h n = cc
ended_used may m old new _ _ h n = absurd h

not_memory : (r : Result ScVal HostErr) (P : Type 0) → ran_out r ≡ false → UnlessMemory r P → P
not_memory (Ok v) P n p = p
not_memory (Err (ends.Failed e)) P n p = p
not_memory (Err ends.Spent) P n p = p
not_memory (Err (ends.Undeclared key)) P n p = p
not_memory (Err (ends.Archived key)) P n p = p
not_memory (Err ends.NoMemory) P n p = cc

-- ---- from a host at its start

module _ {G U V : Type 0} (old new : Host G U V) (header : Header) (authority : Authority) (meter : Meter) (entries : LedgerMap) (work : Work) (r : Result ScVal HostErr)
    (starts : Starts old header authority meter entries) (free : old.ledger.storage.declared ≡ None) (empty : IsRecorded old.ledger.storage []) (recorded : EndsChargedRecorded work r old new) where
  started_needs : ran_out r ≡ false → (footprint : Footprint) (used : Used) → footprint ≡ footprint_by (touched_in new.ledger.storage.touched.keys) → used ≡ new.ledger.budget.used
      → (let n : Needs = record { footprint = footprint; used = used } in n ≡ needs_of (entered_run header authority meter work entries))
  started_needs n footprint used is same =
      let start = start_of header 0 entries in
      let out = after (done_under all_allowed old.ledger.header.now (authority_of old) work) charging (world_around start old []) in
      let p = recorded free start [] empty in
      let keys = is ∙ footprint_same (world_of out).trace new.ledger.storage.touched.keys
      (ap (λ (k : Known). k.keys) (not_memory r _ n p.1) ∙ known_keys new.ledger.storage.touched.seen.limit (world_of out).trace) in
      let sums = same ∙ ended_used all_allowed old.ledger.storage.map old new out r p.0 n in
      (λ i. let m : Needs = record { footprint = keys i; used = sums i } in m)
      ∙ ap needs_of (started_same old header authority meter entries work starts)

  -- the same of what the code returns
  pub run_needs : (given : Result code.Needs NoMemory) → IfOk given (λ n. ran_out r ≡ false) → IfOk given (λ n. n.footprint ≡ footprint_by (touched_in new.ledger.storage.touched.keys))
      → IfOk given (λ n. n.used ≡ new.ledger.budget.used) → IfOk given (λ n. needs_in n ≡ needs_of (entered_run header authority meter work entries))
  run_needs (Ok n) ended is same = started_needs ended n.footprint n.used is same
  run_needs (Err e) ended is same = tt

-- ---- from the start of the whole run

undone_needs : (before : World) (x : Out Datum) → needs_of (then_do (undone before x) charging) ≡ needs_of (then_do x charging)
undone_needs before (Good d w) = refl
undone_needs before (Bad (Failed e) w) = refl
undone_needs before (Bad Spent w) = refl
undone_needs before (Bad (Archived key) w) = refl
undone_needs before (Undeclared a w) = refl

module _ (header : Header) (authority : Authority) (instructions : ℕ) (work : Work) (entries : LedgerMap) (before later : Meter) (is : before ≡ meter_of header instructions) where
  abbrev start : World
  start = start_of header instructions entries

  abbrev acting : Act Datum
  acting = let env : Env = record { header = header; authority = authority; judge = all_allowed } in does env (opener_of env MOST_FRAMES) work

  entered_needs : Passes {A = Datum} (entering (arguments_in work)) before later → needs_of (entered_run header authority later work entries) ≡ needs_of (whole header authority instructions work entries)
  unfolding run_under done_under
  entered_needs passes =
      undone_needs (with_meter later start) (acting (with_meter later start))
      ∙ sym (ap (λ (o : Out Datum). needs_of (then_do o charging)) (passes acting start (sym is)))

  -- arguments that enter
  pub whole_needs : Passes {A = Datum} (entering (arguments_in work)) before later → (given : Result code.Needs NoMemory)
      → IfOk given (λ n. needs_in n ≡ needs_of (entered_run header authority later work entries)) → IfOk given (λ n. needs_in n ≡ needs_of (whole header authority instructions work entries))
  whole_needs passes given h = subst (λ (x : Needs). IfOk given (λ n. needs_in n ≡ x)) (entered_needs passes) h

  abbrev none_used : Used → Needs
  none_used used = record { footprint = no_footprint; used = used }

  stopped_needs : (failure : Failure) → Stops {A = Datum} failure (entering (arguments_in work)) before later → none_used later.used ≡ needs_of (whole header authority instructions work entries)
  unfolding run_under
  stopped_needs failure stops = sym (ap (λ (o : Out Datum). needs_of (then_do o charging)) (stops acting start (sym is)))

  -- arguments that do not enter access no key
  refused_needs : (e : ValueErr) → (let r : Result (Unit {0}) ValueErr = Err e in Enters {A = Datum} r (entering (arguments_in work)) before later) → e ≢ errs.NoMemory
      → none_used later.used ≡ needs_of (whole header authority instructions work entries)
  refused_needs (errs.Failed error) h n = stopped_needs (Failed error) h
  refused_needs errs.Spent h n = stopped_needs Spent h
  refused_needs errs.NoMemory h n = absurd (n refl)

  pub no_needs : (e : ValueErr) → (let r : Result (Unit {0}) ValueErr = Err e in Enters {A = Datum} r (entering (arguments_in work)) before later) → (used : Used) → used ≡ later.used
      → (given : Result code.Needs NoMemory) → IfOk given (λ n. e ≢ errs.NoMemory) → IfOk given (λ n. needs_in n ≡ none_used used)
      → IfOk given (λ n. needs_in n ≡ needs_of (whole header authority instructions work entries))
  no_needs e h used same (Ok n) ended is = is ∙ ap none_used same ∙ refused_needs e h ended
  no_needs e h used same (Err x) ended is = tt
