-- Charges and tests before an act.
use Rattle.std.specs.Prelude.{IsErrAnd, if◌then◌else◌}
use Rattle.std.proofs.Common.{◌≡◌, ℕ, suc, ◌+◌, ◌<◌, ◌≤◌, Bool, true, false, nat_le, List, [], ◌∷◌, ◌++◌, length, get_or, take, drop, Result, Ok, Err, OnOk, refl, sym, ap, subst, ◌∙◌, add-one, drop-cons, arith}
use Rattle.std.proofs.lemmas.List.{take_more}
use Rattle.xdr_core.specs.Sizes.{capped}
use Rattle.budget_meter.specs.Meter.{Meter}
use Rattle.budget_meter.specs.declared.kind.Kind.{Kind}
use Rattle.budget_meter.specs.declared.kind.Kind.TheVariants.{ValDeser}
use Rattle.value_types.specs.Datum.{Datum, void}
use Rattle.value_types.specs.Depth.{depth_of}
use Rattle.value_types.specs.Views.{datum, datums}
use Rattle.value_types.specs.declared.error.ScError.{ScError}
use Rattle.value_types.specs.declared.value.ScVal.{ScVal}
use Rattle.host_spec.specs.Acts as values
use Rattle.host_spec.specs.Errors.{INVALID_VALUE, OTHER_TYPE, TOO_LARGE}
use Rattle.host_spec.specs.Hosted.{size_of, entry, has_host_types, is_well_formed, IsMade, IsHosted, AreHosted}
use Rattle.host_spec.specs.declared.error.ValueErr.{ValueErr}
use Rattle.host_spec.specs.declared.error.ValueErr.TheVariants as errs
use Rattle.host_frame.specs.Resolved.{Resolves}
use Rattle.call_spec.specs.World.{World}
use Rattle.call_spec.specs.Acts.{Failure, Failed, Spent, Act, Out, then_do, gives, lifted, paying}
use Rattle.call_spec.specs.Entering.{argument_entry, only_if_let_in, entering}
use Rattle.auth_parts.specs.Entering.{with_meter, Passes, Stops, Enters}
use Rattle.auth_parts.proofs.Splitting.{entering_then}

-- a result that is this error
pub by_error : {A E : Type 0} (P : Result A E → Type 0) (r : Result A E) (e : E) → IsErrAnd r (λ y. y ≡ e) → (let none : Result A E = Err e in P none) → P r
by_error P (Ok a) e h p = absurd h
by_error {A} {E} P (Err y) e h p = subst (λ (z : E). let none : Result A E = Err z in P none) (sym h) p

-- what a charge does, whatever was shown and whatever the memory holds
abbrev pub Charged : Result (Unit {0}) ValueErr → Kind → ℕ → Meter → Meter → Type 0
Charged r kind input before after =
    (shown : List Datum) (memory : List ℕ) → values.Says r (λ u. u) (values.charged kind input (values.state shown memory before)) (values.state shown memory after)

-- the tests are made before an act that returns a value
abbrev pub EntersValue : Result (Unit {0}) ValueErr → (Act Datum → Act Datum) → Meter → Meter → Type 0
EntersValue r enter before after = Enters r enter before after

module _ (kind : Kind) (input : ℕ) (before after : Meter) where
  charge_at : (w : World) → w.meter ≡ before → values.charged kind input (values.state w.frame.shown w.frame.memory w.meter) ≡ values.charged kind input (values.state w.frame.shown w.frame.memory before)
  charge_at w e = ap (λ (m : Meter). values.charged kind input (values.state w.frame.shown w.frame.memory m)) e

  pub charge_enters : (r : Result (Unit {0}) ValueErr) → Charged r kind input before after → EntersValue r (paying kind input) before after
  charge_enters (Ok u) h = λ act w e. ap (λ (o : values.Out (Unit {0})). then_do (lifted w o) (λ _. act)) (charge_at w e ∙ h w.frame.shown w.frame.memory)
  charge_enters (Err (errs.Failed error)) h = λ act w e. ap (λ (o : values.Out (Unit {0})). then_do (lifted w o) (λ _. act)) (charge_at w e ∙ h w.frame.shown w.frame.memory)
  charge_enters (Err errs.Spent) h = λ act w e. ap (λ (o : values.Out (Unit {0})). then_do (lifted w o) (λ _. act)) (charge_at w e ∙ h w.frame.shown w.frame.memory)
  charge_enters (Err errs.NoMemory) h = tt

-- ---- one argument

module _ (d : Datum) (before after : Meter) where
  one_at : Passes {A = Datum} (paying ValDeser (size_of d)) before after → (r : Result Datum ScError) → argument_entry d ≡ r → (act : Act Datum) (w : World) → w.meter ≡ before
      → entering (d ∷ []) act w ≡ only_if_let_in r act (with_meter after w)
  one_at passes r is act w e = passes (only_if_let_in (argument_entry d) act) w e ∙ ap (λ (x : Result Datum ScError). only_if_let_in x act (with_meter after w)) is

  -- an argument whose charge there is room for
  pub one_enters : (r : Result (Unit {0}) ValueErr) → Passes {A = Datum} (paying ValDeser (size_of d)) before after → Resolves r (λ _. d) (argument_entry d) → EntersValue r (entering (d ∷ [])) before after
  one_enters (Ok u) passes h = λ act w e. one_at passes (Ok d) h act w e
  one_enters (Err (errs.Failed error)) passes h = λ act w e. one_at passes (Err error) h act w e
  one_enters (Err errs.Spent) passes h = absurd h
  one_enters (Err errs.NoMemory) passes h = tt

  -- an argument whose charge fails
  pub one_charge_enters : (e : ValueErr) → (let r : Result (Unit {0}) ValueErr = Err e in Charged r ValDeser (size_of d) before after)
      → let r : Result (Unit {0}) ValueErr = Err e in EntersValue r (entering (d ∷ [])) before after
  one_charge_enters (errs.Failed error) h = λ act w i. charge_enters ValDeser (size_of d) before after (Err (errs.Failed error)) h (only_if_let_in (argument_entry d) act) w i
  one_charge_enters errs.Spent h = λ act w i. charge_enters ValDeser (size_of d) before after (Err errs.Spent) h (only_if_let_in (argument_entry d) act) w i
  one_charge_enters errs.NoMemory h = tt

hosted_by : (d : Datum) (shallow small types formed : Bool) → nat_le (depth_of d) 100 ≡ shallow → nat_le (size_of d) 16777216 ≡ small
    → (if shallow then if small then if types then if formed then Ok d else Err INVALID_VALUE else Err OTHER_TYPE else Err TOO_LARGE else Err TOO_LARGE) ≡ Ok d → IsMade d → IsHosted d
hosted_by d true true types formed p q h made = record { made = made; sized = grind arith; shallow = grind arith }
hosted_by d true false types formed p q h made = absurd cc
hosted_by d false small types formed p q h made = absurd cc

-- a value that entered
pub entered_if : (r : Result (Unit {0}) ValueErr) (d : Datum) → OnOk r (IsMade d) → Resolves r (λ _. d) (argument_entry d) → OnOk r (IsHosted d)
entered_if (Ok u) d made h = hosted_by d (nat_le (depth_of d) 100) (nat_le (size_of d) 16777216) (has_host_types d) (is_well_formed d) refl refl h made
entered_if (Err e) d made h = tt

by_depth : (r : Result (Unit {0}) ValueErr) (d : Datum) (b : Bool) → b ≡ true → Resolves r (λ _. d) (entry d) → Resolves r (λ _. d) (if b then entry d else Err TOO_LARGE)
by_depth r d true e h = h
by_depth r d false e h = absurd cc

-- a value that is not too deep
pub shallow_entry : (r : Result (Unit {0}) ValueErr) (d : Datum) → depth_of d ≤ 100 → Resolves r (λ _. d) (entry d) → Resolves r (λ _. d) (argument_entry d)
shallow_entry r d small h = by_depth r d (nat_le (depth_of d) 100) (grind arith) h

too_deep : (d : Datum) (b : Bool) → b ≡ false → (if b then entry d else Err TOO_LARGE) ≡ Err TOO_LARGE
too_deep d true e = absurd cc
too_deep d false e = refl

-- a value that is too deep
pub deep_entry : (d : Datum) → 100 < depth_of d → argument_entry d ≡ Err TOO_LARGE
deep_entry d large = too_deep d (nat_le (depth_of d) 100) (grind arith)

-- a size that is not capped
pub uncapped : (size n : ℕ) → size ≡ capped n → (size ≡ 18446744073709551615 → ⊥) → size ≡ n
unfolding capped
uncapped size n e below = omega arith

-- ---- several arguments

abbrev Values : Type 0
Values = List ScVal

module _ (vs : Values) (first before after : Meter) where
  -- the arguments up to an index have entered
  abbrev pub Entered : ℕ → Type 0
  Entered i = (act : Act Datum) (w : World) → w.meter ≡ first → entering (datums vs) act w ≡ entering (datums (drop i vs)) act (with_meter before w)

  rest_of : (i : ℕ) (v : ScVal) → i < length vs → v ≡ get_or vs i v → datums (drop i vs) ≡ datum v ∷ datums (drop (i + 1) vs)
  rest_of i v lt is =
      ap datums (drop-cons vs i v lt) ∙ ap (λ (x : ScVal). datum x ∷ datums (drop (suc i) vs)) (sym is)
      ∙ ap (λ (k : ℕ). datum v ∷ datums (drop k vs)) (sym (add-one i))

  pub entered_more : (i : ℕ) (v : ScVal) → i < length vs → v ≡ get_or vs i v → Entered i → Passes {A = Datum} (entering (datum v ∷ [])) before after
      → (act : Act Datum) (w : World) → w.meter ≡ first → entering (datums vs) act w ≡ entering (datums (drop (i + 1) vs)) act (with_meter after w)
  entered_more i v lt is so_far passes act w e =
      so_far act w e
      ∙ ap (λ (ds : List Datum). entering ds act (with_meter before w)) (rest_of i v lt is)
      ∙ passes (entering (datums (drop (i + 1) vs)) act) (with_meter before w) refl

  entered_stops : (failure : Failure) (i : ℕ) (v : ScVal) → i < length vs → v ≡ get_or vs i v → Entered i → Stops {A = Datum} failure (entering (datum v ∷ [])) before after
      → Stops {A = Datum} failure (entering (datums vs)) first after
  entered_stops failure i v lt is so_far stops act w e =
      so_far act w e
      ∙ ap (λ (ds : List Datum). entering ds act (with_meter before w)) (rest_of i v lt is)
      ∙ stops (entering (datums (drop (i + 1) vs)) act) (with_meter before w) refl

  pub entered_ends : (i : ℕ) (v : ScVal) (e : ValueErr) → i < length vs → v ≡ get_or vs i v → Entered i → (let r : Result (Unit {0}) ValueErr = Err e in EntersValue r (entering (datum v ∷ [])) before after)
      → let r : Result (Unit {0}) ValueErr = Err e in EntersValue r (entering (datums vs)) first after
  entered_ends i v (errs.Failed error) lt is so_far h = entered_stops (Failed error) i v lt is so_far h
  entered_ends i v errs.Spent lt is so_far h = entered_stops Spent i v lt is so_far h
  entered_ends i v errs.NoMemory lt is so_far h = tt

  taken : (i : ℕ) (v : ScVal) → i < length vs → v ≡ get_or vs i v → take (i + 1) vs ≡ take i vs ++ v ∷ []
  taken i v lt is = take_more vs i v lt ∙ ap (λ (x : ScVal). take i vs ++ x ∷ []) (sym is)

  pub hosted_more : (i : ℕ) (v : ScVal) → i < length vs → v ≡ get_or vs i v → AreHosted (datums (take i vs)) → IsHosted (datum v) → AreHosted (datums (take (i + 1) vs))
  hosted_more i v lt is so_far here = subst (λ (xs : List ScVal). AreHosted (datums xs)) (sym (taken i v lt is)) (push (take i vs) so_far)
    where
      push : (xs : List ScVal) → AreHosted (datums xs) → AreHosted (datums (xs ++ v ∷ []))
      push [] h = (here, tt)
      push (x ∷ xs) h = (h.0, push xs h.1)

-- ---- arguments before another act

-- the tests are the same before an act that returns anything else
pub enters_any : (A : Type 0) (r : Result (Unit {0}) ValueErr) (ds : List Datum) (before after : Meter) → Enters {A = Datum} r (entering ds) before after → Enters {A = A} r (entering ds) before after
enters_any A (Ok u) ds before after h = λ act w e. entering_then ds void (λ _. act) w ∙ ap (λ (o : Out Datum). then_do o (λ _. act)) (h (gives void) w e)
enters_any A (Err (errs.Failed error)) ds before after h = λ act w e. entering_then ds void (λ _. act) w ∙ ap (λ (o : Out Datum). then_do o (λ _. act)) (h (gives void) w e)
enters_any A (Err errs.Spent) ds before after h = λ act w e. entering_then ds void (λ _. act) w ∙ ap (λ (o : Out Datum). then_do o (λ _. act)) (h (gives void) w e)
enters_any A (Err errs.NoMemory) ds before after h = tt
