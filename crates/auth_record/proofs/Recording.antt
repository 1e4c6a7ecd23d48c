-- What a host has noted at the end of a run is what the recording run noted.
use Rattle.std.proofs.Common.{◌≡◌, ℕ, zero, suc, ◌+◌, ◌-◌, ◌^◌, Bool, true, false, cond, ◌&&◌, List, [], reverse, Option, Some, None, Result, Ok, Err, IfOk, ◌≢◌, nat_le, nat_lt, refl, sym, ap, ap₂, ◌∙◌, subst, arith}
use Rattle.std.specs.Option.{option_map}
use Rattle.std.proofs.lemmas.Bool.{lt-ltb, ltb-false}
use Rattle.budget_meter.specs.Meter.{Meter, used_after}
use Rattle.budget_meter.specs.declared.kind.Kind.TheVariants.{ValSer}
use Rattle.value_types.specs.Datum.{Datum}
use Rattle.value_types.specs.Views.{datum}
use Rattle.value_types.specs.declared.account_id.AccountId.{AccountId}
use Rattle.value_types.specs.declared.error.ScError.{ScError}
use Rattle.value_types.specs.declared.value.ScVal.{ScVal}
use Rattle.auth_types.specs.declared.auth_entry.AuthEntry.{AuthEntry}
use Rattle.ledger_types.specs.declared.header.Header.{Header}
use Rattle.ledger_spec.specs.LedgerMap.{LedgerMap}
use Rattle.std.proofs.lemmas.Option.{same_Some}
use Rattle.auth_spec.specs.Noted.{Note, Notes, no_notes, one_more}
use Rattle.auth_spec.specs.Authorities.{demands_of, noted_back}
use Rattle.host_spec.specs.Acts as values
use Rattle.host_spec.specs.Hosted.{size_of}
use Rattle.host_spec.specs.declared.error.HostErr.{HostErr}
use Rattle.host_spec.specs.declared.error.HostErr.TheVariants as ends
use Rattle.call_spec.specs.World.{Judge, outside, World, Authority, Env}
use Rattle.call_spec.specs.Acts.{Failure, Failed, Spent, Archived, Out, Good, Bad, Undeclared, Act, then_do, after, gives, lifted, state_of}
use Rattle.call_spec.specs.Calling.{restored, undone}
use Rattle.call_spec.specs.HostFunctions.{MOST_FRAMES, opener_of}
use Rattle.call_spec.specs.Entering.{entering}
use Rattle.call_spec.specs.WholeRuns.{Work, arguments_in, does, meter_of, start_of, all_allowed, done_under}
use Rattle.tx_apply.specs.Worlds.{authority_of, world_around}
use Rattle.tx_apply.specs.Ended.{IsEnd}
use Rattle.tx_apply.specs.Host.{Host}
use Rattle.xdr_core.specs.declared.error.NoMemory.{NoMemory}
use Rattle.host_spec.specs.declared.error.ValueErr.{ValueErr}
use Rattle.host_spec.specs.declared.error.ValueErr.TheVariants as errs
use Rattle.tx_apply.specs.Entering.{with_meter, Passes, Stops, Enters}
use Rattle.tx_apply.specs.Traced.{IsRecorded}
use Rattle.tx_apply.specs.Running.{charging, EndsChargedRecorded}
use Rattle.tx_apply.specs.Recording.{ran_out}
use Rattle.record_spec.specs.Trees.{Terms, entries_of}
use Rattle.record_spec.specs.Recorded.{with_notes, nobody, recording, Recorded, nothing_recorded, recorded_by, recorded_at}
use Rattle.auth_record.specs.declared.record.Recorded as code
use Rattle.auth_record.specs.Views.{recorded_in, recorded_with, has_failed, value_in, entered_recording}

-- ---- a run that fails is undone, which is no caught failure

not_first : (b : Bool) (u : ℕ) → nat_lt u (2 ^ 64 - 1) ≡ b → nat_lt 1 (cond b (u + 1) u) ≡ nat_lt 0 u
not_first true zero e = refl
not_first false zero e = refl
not_first true (suc u) e = lt-ltb 1 (suc u + 1) (omega arith) ∙ sym (lt-ltb 0 (suc u) (omega arith))
not_first false (suc u) e = lt-ltb 1 (suc u) (omega (arith, ltb-false (suc u) (2 ^ 64 - 1) e)) ∙ sym (lt-ltb 0 (suc u) (omega arith))

module _ (terms : Terms) (source : AccountId) where
  same_notes : (b : Bool) (n : Notes) → nat_lt 0 n.demands ≡ b
      → nat_lt (cond b 1 0) (cond b (one_more n.undone) n.undone) ≡ nat_lt 0 n.undone
  same_notes true n e = not_first (nat_lt n.undone (2 ^ 64 - 1)) n.undone refl
  same_notes false n e = refl

  failed_same : (n : Option Notes) → recorded_with terms source None true (noted_back 0 n) ≡ recorded_by terms source None n
  failed_same None = refl
  failed_same (Some n) =
      ap (λ (b : Bool). let r : Recorded = record { entries = entries_of terms source n.nodes; caught = b; value = None } in r)
      (same_notes (nat_lt 0 n.demands) n refl)

  passed_same : (value : Option Datum) (n : Option Notes) → recorded_with terms source value false n ≡ recorded_by terms source value n
  passed_same value None = refl
  passed_same value (Some n) = refl

-- what the program makes of what a recorder tells
pub told : (terms : Terms) (source : AccountId) (value : Option Datum) (failed : Bool) (noted : Option Notes) (demands undone own : ℕ) (nodes : List Note) (entries : List AuthEntry) (caught : Bool) (given : Option Datum)
    → entries ≡ entries_of terms source nodes → own ≡ cond (failed && nat_lt 0 demands) 1 0 → caught ≡ nat_lt own undone → given ≡ value
    → option_map (λ n. n.demands) noted ≡ Some demands → option_map (λ n. n.undone) noted ≡ Some undone → option_map (λ n. n.nodes) noted ≡ Some nodes
    → (let r : Recorded = record { entries = entries; caught = caught; value = given } in r ≡ recorded_with terms source value failed noted)
told terms source value failed None demands undone own nodes entries caught given e o c v d u n = absurd cc
told terms source value failed (Some notes) demands undone own nodes entries caught given e o c v d u n =
    let same_nodes = e ∙ ap (entries_of terms source) (sym (same_Some notes.nodes nodes n)) in
    let same_own = o ∙ ap (λ (x : ℕ). cond (failed && nat_lt 0 x) 1 0) (sym (same_Some notes.demands demands d)) in
    let same_caught = c ∙ ap₂ (λ (x : ℕ) (y : ℕ). nat_lt x y) same_own (sym (same_Some notes.undone undone u)) in
    λ i. let r : Recorded = record { entries = same_nodes i; caught = same_caught i; value = v i } in r

-- ---- the charge for the value

-- a charge is paid, or the budget is spent
abbrev IsCharge : Datum → World → Out Datum → Type 0
IsCharge d w (Good b v) = (b ≡ d) × (v.noted ≡ w.noted)
IsCharge d w (Bad Spent v) = v.noted ≡ w.noted
IsCharge d w _ = ⊥

charged_is : (d : Datum) (w : World) (b : Bool) (m : Meter) → IsCharge d w (then_do (lifted w (values.charged_if b m (state_of w))) (λ _. gives d))
charged_is d w true m = (refl, refl)
charged_is d w false m = refl

charge_is : (d : Datum) (w : World) → IsCharge d w (charging d w)
unfolding values.charged
charge_is d w =
    let used = used_after w.meter ValSer (size_of d) in
    let limits = w.meter.limits in
    charged_is d w (nat_le used.instructions limits.instructions && nat_le used.memory limits.memory) (record w.meter { used = used })

-- ---- the end of a run

module _ {G U V : Type 0} (terms : Terms) (source : AccountId) (may : Judge) (m : LedgerMap) (old new : Host G U V) where
  -- what the program makes of its result is what is recorded of the run
  abbrev pub Comes : Out Datum → Result ScVal HostErr → Type 0
  Comes out r = recorded_with terms source (value_in r) (has_failed r) new.marks.noted ≡ recorded_at terms source out

  -- an end that nothing catches
  stopped_comes : (noted : Option Notes) → new.marks.noted ≡ noted → recorded_with terms source None false new.marks.noted ≡ recorded_by terms source None noted
  stopped_comes noted same = passed_same terms source None new.marks.noted ∙ ap (recorded_by terms source None) same

  charged_comes : (d : Datum) (w : World) (out : Out Datum) (r : Result ScVal HostErr) → IsCharge d w out → IsEnd may m out r datum old new → ran_out r ≡ false → Comes out r
  charged_comes d w (Good b v) (Ok a) c h n =
      ap (λ (x : Option Datum). recorded_with terms source x false new.marks.noted) (ap Some (sym h.0)) ∙ passed_same terms source (Some b) new.marks.noted ∙ ap (recorded_by terms source (Some b)) h.4
  charged_comes d w (Good b v) (Err ends.NoMemory) c h n = cc
  charged_comes d w (Good b v) _ c h n = absurd h
  charged_comes d w (Bad Spent v) (Err ends.Spent) c h n = stopped_comes v.noted h.1
  charged_comes d w (Bad Spent v) (Err ends.NoMemory) c h n = cc
  charged_comes d w (Bad Spent v) _ c h n = absurd h
  charged_comes d w (Bad (Failed e) v) r c h n = absurd c
  charged_comes d w (Bad (Archived key) v) r c h n = absurd c
  charged_comes d w (Undeclared a v) r c h n = absurd c

  failed_comes : (e : ScError) (before w : World) (r : Result ScVal HostErr) → before.noted ≡ Some no_notes → IsEnd may m (Bad (Failed e) (restored before w)) r datum old new → ran_out r ≡ false
      → Comes (Bad (Failed e) w) r
  failed_comes e before w (Err (ends.Failed d)) first h n =
      ap (recorded_with terms source None true) (h.4 ∙ ap (λ (x : Option Notes). noted_back (demands_of x) w.noted) first) ∙ failed_same terms source w.noted
  failed_comes e before w (Err ends.NoMemory) first h n = cc
  failed_comes e before w _ first h n = absurd h

  pub run_comes : (before : World) (x : Out Datum) (r : Result ScVal HostErr) → before.noted ≡ Some no_notes → IsEnd may m (then_do (undone before x) charging) r datum old new → ran_out r ≡ false
      → Comes (then_do x charging) r
  run_comes before (Good d w) r first h n = charged_comes d w (charging d w) r (charge_is d w) h n
  run_comes before (Bad (Failed e) w) r first h n = failed_comes e before w r first h n
  run_comes before (Bad Spent w) (Err ends.Spent) first h n = stopped_comes w.noted h.1
  run_comes before (Bad Spent w) (Err ends.NoMemory) first h n = cc
  run_comes before (Bad Spent w) _ first h n = absurd h
  run_comes before (Bad (Archived key) w) (Err (ends.Archived k)) first h n = stopped_comes w.noted h.2
  run_comes before (Bad (Archived key) w) (Err ends.NoMemory) first h n = cc
  run_comes before (Bad (Archived key) w) _ first h n = absurd h
  run_comes before (Undeclared a w) (Err ends.NoMemory) first h n = cc
  run_comes before (Undeclared a w) _ first h n = absurd h

-- ---- from a host at its start

module _ {G U V : Type 0} (old : Host G U V) where
  pub record Starts (header : Header) (source : AccountId) (meter : Meter) (entries : LedgerMap) : Type 0 where
    pub header-is : old.ledger.header.now ≡ header
    pub authority-is : authority_of old ≡ nobody source
    pub map-is : old.ledger.storage.map ≡ entries
    pub events-is : old.ledger.events ≡ []
    pub pairs-is : old.marks.pairs ≡ []
    pub noted-is : old.marks.noted ≡ Some no_notes
    pub open-is : old.open.items ≡ []
    pub path-is : old.ledger.frame.path.items ≡ []
    pub begun-is : old.ledger.frame.begun ≡ 0
    pub meter-is : old.ledger.budget ≡ meter

  abbrev first : Header → LedgerMap → World
  first header entries = start_of header 0 entries

  start_same : (header : Header) (source : AccountId) (meter : Meter) (entries : LedgerMap) → Starts header source meter entries
      → world_around (first header entries) old [] ≡ with_meter meter (with_notes (first header entries))
  start_same header source meter entries is = λ i. record (first header entries) {
    entries = is.map-is i;
    events = is.events-is i;
    pairs = is.pairs-is i;
    noted = is.noted-is i;
    frame = record outside { path = is.path-is i; begun = is.begun-is i };
    contracts = reverse (is.open-is i);
    meter = is.meter-is i;
  }

  abbrev acting : Header → AccountId → Work → Act Datum
  acting header source work = let env : Env = record { header = header; authority = nobody source; judge = all_allowed } in does env (opener_of env MOST_FRAMES) work

  abbrev run_from : Header → Authority → World → Work → Out Datum
  run_from header authority w work = after (done_under all_allowed header authority work) charging w

  abbrev undone_entered : Header → AccountId → Meter → Work → LedgerMap → Out Datum
  undone_entered header source meter work entries =
      let start = with_meter meter (with_notes (first header entries)) in
      then_do (undone start (acting header source work start)) charging

  started_same : (header : Header) (source : AccountId) (meter : Meter) (entries : LedgerMap) (work : Work) → Starts header source meter entries
      → run_from old.ledger.header.now (authority_of old) (world_around (first header entries) old []) work ≡ undone_entered header source meter work entries
  unfolding done_under
  started_same header source meter entries work is =
      let around = world_around (first header entries) old [] in
      ap (λ (x : Header). run_from x (authority_of old) around work) is.header-is
      ∙ ap (λ (a : Authority). run_from header a around work) is.authority-is
      ∙ ap (λ (w : World). run_from header (nobody source) w work) (start_same header source meter entries is)

  pub started_comes : (new : Host G U V) (terms : Terms) (header : Header) (source : AccountId) (meter : Meter) (entries : LedgerMap) (work : Work) (r : Result ScVal HostErr)
      → Starts header source meter entries → old.ledger.storage.declared ≡ None → IsRecorded old.ledger.storage [] → EndsChargedRecorded work r old new → ran_out r ≡ false
      → Comes terms source all_allowed old.ledger.storage.map old new (entered_recording header source meter work entries) r
  started_comes new terms header source meter entries work r is free empty recorded n =
      let start = with_meter meter (with_notes (first header entries)) in
      let p = recorded free (first header entries) [] empty in
      let end : IsEnd all_allowed old.ledger.storage.map (undone_entered header source meter work entries) r datum old new =
      subst (λ (out : Out Datum). IsEnd all_allowed old.ledger.storage.map out r datum old new) (started_same header source meter entries work is) p.0 in
      run_comes terms source all_allowed old.ledger.storage.map old new start (acting header source work start) r refl end n

-- ---- what the code returns

module _ {G U V : Type 0} (old new : Host G U V) (terms : Terms) (header : Header) (source : AccountId) (meter : Meter) (entries : LedgerMap) (work : Work) (r : Result ScVal HostErr) where
  -- the run after its arguments have entered
  pub run_records : Starts old header source meter entries → old.ledger.storage.declared ≡ None → IsRecorded old.ledger.storage [] → EndsChargedRecorded work r old new
      → (given : Result code.Recorded NoMemory) → IfOk given (λ _. ran_out r ≡ false)
      → IfOk given (λ x. recorded_in x ≡ recorded_with terms source (value_in r) (has_failed r) new.marks.noted)
      → IfOk given (λ x. recorded_in x ≡ recorded_at terms source (entered_recording header source meter work entries))
  run_records starts free empty recorded (Ok x) ended is = is ∙ started_comes old new terms header source meter entries work r starts free empty recorded ended
  run_records starts free empty recorded (Err e) ended is = tt

-- ---- from the start of the run

module _ (header : Header) (terms : Terms) (source : AccountId) (instructions : ℕ) (work : Work) (entries : LedgerMap) (before later : Meter) (is : before ≡ meter_of header instructions) where
  abbrev start : World
  start = with_notes (start_of header instructions entries)

  abbrev act : Act Datum
  act = let env : Env = record { header = header; authority = nobody source; judge = all_allowed } in does env (opener_of env MOST_FRAMES) work

  same_run : Passes {A = Datum} (entering (arguments_in work)) before later → entered_recording header source later work entries ≡ recording header source instructions work entries
  unfolding recording
  same_run passes = sym (ap (λ (o : Out Datum). then_do o charging) (passes act start (sym is)))

  pub whole_records : Passes {A = Datum} (entering (arguments_in work)) before later → (given : Result code.Recorded NoMemory)
      → IfOk given (λ x. recorded_in x ≡ recorded_at terms source (entered_recording header source later work entries)) → IfOk given (λ x. recorded_in x ≡ recorded_at terms source (recording header source instructions work entries))
  whole_records passes given h = subst (λ (out : Out Datum). IfOk given (λ x. recorded_in x ≡ recorded_at terms source out)) (same_run passes) h

  -- arguments that do not enter: nothing was noted
  stopped_run : (failure : Failure) → Stops {A = Datum} failure (entering (arguments_in work)) before later → recording header source instructions work entries ≡ Bad failure (with_meter later start)
  unfolding recording
  stopped_run failure stops = ap (λ (o : Out Datum). then_do o charging) (stops act start (sym is))

  bare_records : (failure : Failure) (w : World) (x : code.Recorded) → w.noted ≡ Some no_notes → recorded_in x ≡ nothing_recorded → recorded_in x ≡ recorded_at terms source (Bad failure w)
  bare_records failure w x none h = h ∙ sym (ap (recorded_by terms source None) none)

  stopped_records : (failure : Failure) → Stops {A = Datum} failure (entering (arguments_in work)) before later → (x : code.Recorded) → recorded_in x ≡ nothing_recorded
      → recorded_in x ≡ recorded_at terms source (recording header source instructions work entries)
  stopped_records failure stops x h = subst (λ (out : Out Datum). recorded_in x ≡ recorded_at terms source out) (sym (stopped_run failure stops)) (bare_records failure (with_meter later start) x refl h)

  refused_records : (e : ValueErr) → (let r : Result (Unit {0}) ValueErr = Err e in Enters {A = Datum} r (entering (arguments_in work)) before later) → e ≢ errs.NoMemory → (x : code.Recorded)
      → recorded_in x ≡ nothing_recorded → recorded_in x ≡ recorded_at terms source (recording header source instructions work entries)
  refused_records (errs.Failed error) h n x is = stopped_records (Failed error) h x is
  refused_records errs.Spent h n x is = stopped_records Spent h x is
  refused_records errs.NoMemory h n x is = absurd (n refl)

  pub not_records : (e : ValueErr) → (let r : Result (Unit {0}) ValueErr = Err e in Enters {A = Datum} r (entering (arguments_in work)) before later) → (given : Result code.Recorded NoMemory)
      → IfOk given (λ _. e ≢ errs.NoMemory) → IfOk given (λ x. recorded_in x ≡ nothing_recorded) → IfOk given (λ x. recorded_in x ≡ recorded_at terms source (recording header source instructions work entries))
  not_records e h (Ok x) ended is = refused_records e h ended x is
  not_records e h (Err m) ended is = tt
