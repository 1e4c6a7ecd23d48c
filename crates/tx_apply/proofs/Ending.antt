-- Ends of the host's calls, under other views of their values.
use Rattle.std.specs.Prelude.{IfOk, IsErrAnd}
use Rattle.std.proofs.Common.{◌≡◌, Bool, true, false, List, [], Option, Some, None, Result, Ok, Err, refl, sym, ap, subst, ◌∙◌}
use Rattle.budget_meter.specs.Meter.{Meter}
use Rattle.budget_meter.specs.declared.kind.Kind.TheVariants.{ValSer}
use Rattle.value_types.specs.Datum.{Datum}
use Rattle.value_types.specs.Views.{datum}
use Rattle.value_types.specs.declared.value.ScVal.{ScVal}
use Rattle.ledger_spec.specs.LedgerMap.{LedgerMap}
use Rattle.host_spec.specs.Acts as values
use Rattle.host_spec.specs.Acts.{charged}
use Rattle.host_spec.specs.Ends.{host_end}
use Rattle.host_spec.specs.Hosted.{size_of}
use Rattle.host_spec.specs.declared.error.ValueErr.{ValueErr}
use Rattle.host_spec.specs.declared.error.ValueErr.TheVariants as errs
use Rattle.value_types.specs.declared.error.ScError.{ScError}
use Rattle.host_spec.specs.declared.error.HostErr.{HostErr}
use Rattle.host_spec.specs.declared.error.HostErr.TheVariants as ends
use Rattle.call_spec.specs.World.{Judge, Access, World}
use Rattle.call_spec.specs.Acts.{Failed, Spent, Archived, Out, Good, Bad, Undeclared, world_of, then_do, gives, lifted, paying}
use Rattle.call_spec.specs.Footprints.{by_footprint, first_rejected}
use Rattle.call_spec.specs.WholeRuns.{Work, all_allowed, done_under}
use Rattle.contract_call.specs.Traced.{known_of, IsRecorded}
use Rattle.contract_call.specs.Worlds.{authority_of, world_around}
use Rattle.contract_call.specs.Ended.{IsEnd, EndsBy, Ends, UnlessMemory, EndsRecorded}
use Rattle.contract_call.specs.Host.{Host}
use Rattle.contract_call.specs.Entering.{with_meter, Enters}
use Rattle.tx_apply.specs.Running.{charging, Charges, EndsCharged, EndsChargedRecorded}
use Rattle.tx_apply.proofs.Running.{charged_traced}

-- what follows of a value
pub if_ok : {A E : Type 0} {P Q : A → Type 0} (r : Result A E) → ((a : A) → P a → Q a) → IfOk r P → IfOk r Q
if_ok (Ok a) f h = f a h
if_ok (Err e) f h = tt

-- a result that is this error
pub by_error : {A E : Type 0} (P : Result A E → Type 0) (r : Result A E) (e : E) → IsErrAnd r (λ y. y ≡ e) → (let none : Result A E = Err e in P none) → P r
by_error P (Ok a) e h p = absurd h
by_error {A} {E} P (Err y) e h p = subst (λ (z : E). let none : Result A E = Err z in P none) (sym h) p

module _ {A B G U V : Type 0} (f : A → Datum) (g : B → Datum) (may : Judge) (m : LedgerMap) (old new : Host G U V) where
  abbrev ByA : Option Access → Out Datum → Result A HostErr → Type 0
  ByA first out r = EndsBy may m first out r f old new

  abbrev ByB : Option Access → Out Datum → Result B HostErr → Type 0
  ByB first out r = EndsBy may m first out r g old new

  end_other : (out : Out Datum) (e : HostErr) → ByA None out (Err e) → ByB None out (Err e)
  end_other (Bad (Failed d) w) (ends.Failed e) h = h
  end_other (Bad Spent w) ends.Spent h = h
  end_other (Bad (Archived key) w) (ends.Archived k) h = h
  end_other out ends.NoMemory h = memory out
    where
      memory : (out : Out Datum) → ByB None out (Err ends.NoMemory)
      memory (Good d w) = tt
      memory (Bad (Failed d) w) = tt
      memory (Bad Spent w) = tt
      memory (Bad (Archived key) w) = tt
      memory (Undeclared a w) = tt
  end_other _ _ h = absurd h

  pub failed_by : (first : Option Access) (out : Out Datum) (e : HostErr) → ByA first out (Err e) → ByB first out (Err e)
  failed_by (Some a) out (ends.Undeclared key) h = h
  failed_by (Some a) out ends.NoMemory h = tt
  failed_by (Some a) out _ h = absurd h
  failed_by None out e h = end_other out e h

  pub viewed_by : (first : Option Access) (out : Out Datum) (a : A) (b : B) → f a ≡ g b → ByA first out (Ok a) → ByB first out (Ok b)
  viewed_by (Some c) out a b e h = absurd h
  viewed_by None (Good d w) a b e h = (h.0 ∙ e, h.1, h.2, h.3, h.4, h.5)
  viewed_by None (Bad (Failed d) w) a b e h = absurd h
  viewed_by None (Bad Spent w) a b e h = absurd h
  viewed_by None (Bad (Archived key) w) a b e h = absurd h
  viewed_by None (Undeclared c w) a b e h = absurd h

pub memory_by : {B G U V : Type 0} (g : B → Datum) (may : Judge) (m : LedgerMap) (old new : Host G U V) (first : Option Access) (out : Out Datum)
    → (let none : Result B HostErr = Err ends.NoMemory in EndsBy may m first out none g old new)
memory_by g may m old new (Some a) out = tt
memory_by g may m old new None (Good d w) = tt
memory_by g may m old new None (Bad (Failed d) w) = tt
memory_by g may m old new None (Bad Spent w) = tt
memory_by g may m old new None (Bad (Archived key) w) = tt
memory_by g may m old new None (Undeclared a w) = tt

-- what holds holds if memory did not run out
unless_memory : {A : Type 0} (r : Result A HostErr) (P : Type 0) → P → UnlessMemory r P
unless_memory (Ok a) P p = p
unless_memory (Err (ends.Failed e)) P p = p
unless_memory (Err ends.Spent) P p = p
unless_memory (Err (ends.Undeclared key)) P p = p
unless_memory (Err (ends.Archived key)) P p = p
unless_memory (Err ends.NoMemory) P p = tt

failed_unless : (A B : Type 0) (e : HostErr) (P : Type 0) → (let r : Result A HostErr = Err e in UnlessMemory r P) → let r : Result B HostErr = Err e in UnlessMemory r P
failed_unless A B (ends.Failed e) P p = p
failed_unless A B ends.Spent P p = p
failed_unless A B (ends.Undeclared key) P p = p
failed_unless A B (ends.Archived key) P p = p
failed_unless A B ends.NoMemory P p = tt

-- ---- the calls of the program

module _ {A B G U V : Type 0} (work : Work) (f : A → Datum) (g : B → Datum) (old new : Host G U V) where
  pub ends_failed : (e : HostErr) → (let r : Result A HostErr = Err e in Ends work r f old new) → let r : Result B HostErr = Err e in Ends work r g old new
  ends_failed e h footprint is m agree rest = failed_by f g (by_footprint footprint) m old new _ _ e (h footprint is m agree rest)

  pub ends_viewed : (a : A) (b : B) → f a ≡ g b → (let r : Result A HostErr = Ok a in Ends work r f old new) → let r : Result B HostErr = Ok b in Ends work r g old new
  ends_viewed a b e h footprint is m agree rest = viewed_by f g (by_footprint footprint) m old new _ _ a b e (h footprint is m agree rest)

  -- the same over a storage that records
  pub recorded_failed : (e : HostErr) → (let r : Result A HostErr = Err e in EndsRecorded work r f old new) → let r : Result B HostErr = Err e in EndsRecorded work r g old new
  recorded_failed e h free rest trace told =
      let out = done_under all_allowed old.ledger.header.now (authority_of old) work (world_around rest old trace) in
      let p = h free rest trace told in
      (failed_by f g all_allowed old.ledger.storage.map old new None out e p.0, failed_unless A B e (IsRecorded new.ledger.storage (world_of out).trace) p.1)

  pub recorded_viewed : (a : A) (b : B) → f a ≡ g b → (let r : Result A HostErr = Ok a in EndsRecorded work r f old new) → let r : Result B HostErr = Ok b in EndsRecorded work r g old new
  recorded_viewed a b e h free rest trace told =
      let out = done_under all_allowed old.ledger.header.now (authority_of old) work (world_around rest old trace) in
      let p = h free rest trace told in
      (viewed_by f g all_allowed old.ledger.storage.map old new None out a b e p.0, p.1)

-- ---- the charge for the value

-- what the program says of the charge
pub charge_refused : (e : ValueErr) (value : ScVal) (before after : Meter) → (let r : Result (Unit {0}) ValueErr = Err e in Enters {A = Datum} r (paying ValSer (size_of (datum value))) before after)
    → let none : Result ScVal HostErr = Err (host_end e) in Charges none value before after
charge_refused (errs.Failed error) value before after h = h
charge_refused errs.Spent value before after h = h
charge_refused errs.NoMemory value before after h = tt

-- a charge is made, or it spends the budget
charge_never_fails : (w : World) (d : Datum) (b : Bool) (after : Meter) (s : values.State) (e : ScError) (v : World) → then_do (lifted w (values.charged_if b after s)) (λ _. gives d) ≡ Bad (Failed e) v → ⊥
charge_never_fails w d true after s e v is = cc
charge_never_fails w d false after s e v is = cc

never_fails : (d : Datum) (w : World) (e : ScError) (v : World) → charging d w ≡ Bad (Failed e) v → ⊥
unfolding charged
never_fails d w e v is = charge_never_fails w d _ _ (values.state w.frame.shown w.frame.memory w.meter) e v is

module _ {G U V : Type 0} (work : Work) (old mid : Host G U V) where
  -- the host after the charge
  abbrev pub paid : Meter → Host G U V
  paid after = record mid { ledger = record mid.ledger { budget = after } }

  module _ (may : Judge) (m : LedgerMap) where
    charged_by : (after : Meter) (value : ScVal) (first : Option Access) (out : Out Datum) (r : Result ScVal HostErr)
        → (let given : Result ScVal HostErr = Ok value in EndsBy may m first out given datum old mid) → Charges r value mid.ledger.budget after
        → EndsBy may m first (then_do out charging) r datum old (paid after)
    charged_by after value (Some a) out r h c = absurd h
    charged_by after value None (Good b w) (Ok v) h c =
        let is : charging b w ≡ Good (datum value) (with_meter after w) = ap (λ (d : Datum). charging d w) h.0 ∙ c.1 (gives (datum value)) w (sym h.1) in
        subst (λ (x : Out Datum). let given : Result ScVal HostErr = Ok v in IsEnd may m x given datum old (paid after)) (sym is) (sym (ap datum c.0), refl, h.2, h.3, h.4, h.5)
    charged_by after value None (Good b w) (Err ends.Spent) h c =
        let is : charging b w ≡ Bad Spent (with_meter after w) = ap (λ (d : Datum). charging d w) h.0 ∙ c (gives (datum value)) w (sym h.1) in
        subst (λ (x : Out Datum). let none : Result ScVal HostErr = Err ends.Spent in IsEnd may m x none datum old (paid after)) (sym is) (refl, h.4)
    charged_by after value None (Good b w) (Err (ends.Failed e)) h c =
        let is : charging b w ≡ Bad (Failed e) (with_meter after w) = ap (λ (d : Datum). charging d w) h.0 ∙ c (gives (datum value)) w (sym h.1) in
        absurd (never_fails b w e (with_meter after w) is)
    charged_by after value None (Good b w) (Err ends.NoMemory) h c = memory_by datum may m old (paid after) None (charging b w)
    charged_by after value None (Good b w) (Err (ends.Undeclared key)) h c = absurd c
    charged_by after value None (Good b w) (Err (ends.Archived key)) h c = absurd c
    charged_by after value None (Bad (Failed d) w) r h c = absurd h
    charged_by after value None (Bad Spent w) r h c = absurd h
    charged_by after value None (Bad (Archived key) w) r h c = absurd h
    charged_by after value None (Undeclared a w) r h c = absurd h

    failed_charged_by : (first : Option Access) (out : Out Datum) (e : HostErr) → (let none : Result ScVal HostErr = Err e in EndsBy may m first out none datum old mid)
        → let none : Result ScVal HostErr = Err e in EndsBy may m first (then_do out charging) none datum old mid
    failed_charged_by (Some a) out (ends.Undeclared key) h = h
    failed_charged_by (Some a) out ends.NoMemory h = tt
    failed_charged_by (Some a) out _ h = absurd h
    failed_charged_by None (Bad d w) e h = h
    failed_charged_by None (Undeclared a w) e h = h
    failed_charged_by None (Good b w) ends.NoMemory h = memory_by datum may m old mid None (charging b w)
    failed_charged_by None (Good b w) _ h = absurd h

  pub charged_ends : (after : Meter) (value : ScVal) (r : Result ScVal HostErr) → (let given : Result ScVal HostErr = Ok value in Ends work given datum old mid)
      → Charges r value mid.ledger.budget after → EndsCharged work r old (paid after)
  charged_ends after value r h c footprint is rest =
      let may = by_footprint footprint in
      let out = done_under all_allowed old.ledger.header.now (authority_of old) work (world_around rest old []) in
      subst (λ (t : List Access). EndsBy may old.ledger.storage.map (first_rejected may t) (then_do out charging) r datum old (paid after)) (sym (charged_traced out))
      (charged_by may old.ledger.storage.map after value (first_rejected may (world_of out).trace) out r (h footprint is old.ledger.storage.map (λ k e. refl) rest) c)

  pub failed_ends : (e : HostErr) → (let none : Result ScVal HostErr = Err e in Ends work none datum old mid) → let none : Result ScVal HostErr = Err e in EndsCharged work none old mid
  failed_ends e h footprint is rest =
      let may = by_footprint footprint in
      let out = done_under all_allowed old.ledger.header.now (authority_of old) work (world_around rest old []) in
      subst (λ (t : List Access). let none : Result ScVal HostErr = Err e in EndsBy may old.ledger.storage.map (first_rejected may t) (then_do out charging) none datum old mid) (sym (charged_traced out))
      (failed_charged_by may old.ledger.storage.map (first_rejected may (world_of out).trace) out e (h footprint is old.ledger.storage.map (λ k e. refl) rest))

  -- the same over a storage that records: the charge makes no access
  pub charged_recorded : (after : Meter) (value : ScVal) (r : Result ScVal HostErr) → (let given : Result ScVal HostErr = Ok value in EndsRecorded work given datum old mid)
      → Charges r value mid.ledger.budget after → EndsChargedRecorded work r old (paid after)
  charged_recorded after value r h c free rest trace told =
      let out = done_under all_allowed old.ledger.header.now (authority_of old) work (world_around rest old trace) in
      let p = h free rest trace told in
      (charged_by all_allowed old.ledger.storage.map after value None out r p.0 c, unless_memory r _ (p.1 ∙ ap (known_of None mid.ledger.storage.touched.seen.limit) (sym (charged_traced out))))

  pub failed_recorded : (e : HostErr) → (let none : Result ScVal HostErr = Err e in EndsRecorded work none datum old mid) → let none : Result ScVal HostErr = Err e in EndsChargedRecorded work none old mid
  failed_recorded e h free rest trace told =
      let none : Result ScVal HostErr = Err e in
      let out = done_under all_allowed old.ledger.header.now (authority_of old) work (world_around rest old trace) in
      let p = h free rest trace told in (
        failed_charged_by all_allowed old.ledger.storage.map None out e p.0,
        subst (λ (t : List Access). UnlessMemory none (IsRecorded mid.ledger.storage t)) (sym (charged_traced out)) p.1,
      )
