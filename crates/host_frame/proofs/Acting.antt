-- Laws of acts.
use Rattle.std.proofs.Common.{◌≡◌, ℕ, suc, ◌≤◌, ◌<◌, List, [], ◌∷◌, ◌++◌, length, nat_lt, Bool, true, false, Ok, Err, ◌&&◌, nat_le, refl, sym, subst, ap, arith}
use Rattle.std.specs.Prelude.{Result, IsErrAnd}
use Rattle.budget_meter.specs.declared.kind.Kind.{Kind}
use Rattle.budget_meter.specs.declared.kind.Kind.TheVariants.{MemAlloc}
use Rattle.budget_meter.specs.declared.budget.Limits.{Limits}
use Rattle.budget_meter.specs.declared.budget.Used.{Used}
use Rattle.budget_meter.specs.Costs.{IsWithin}
use Rattle.budget_meter.specs.Meter.{Meter, used_after}
use Rattle.wasm_spec.specs.Runs.{has_room}
use Rattle.xdr_core.specs.Sizes.{capped}
use Rattle.value_types.specs.Datum.{Datum}
use Rattle.value_types.specs.Depth.{depth_of}
use Rattle.host_spec.specs.declared.error.ValueErr.{ValueErr}
use Rattle.host_spec.specs.declared.error.ValueErr.TheVariants as errs
use Rattle.host_spec.specs.Acts.{State, Out, Good, Failed, Spent, Act, state, charged, then_do, Says}
use Rattle.host_spec.specs.Errors.{TOO_LARGE, FULL_FRAME}
use Rattle.host_spec.specs.Words.{object_word}
use Rattle.host_spec.specs.Hosted.{size_of}
use Rattle.host_spec.specs.Answers.{shown_as_object}
use Rattle.object_store.specs.Shown.{shown_of}

-- ---- charges

le_true : (a b : ℕ) → a ≤ b → nat_le a b ≡ true
le_true a b h = grind arith

room : (limits : Limits) (used : Used) → IsWithin limits used → has_room limits used ≡ true
room limits used h = rw (le_true _ _ h.0, le_true _ _ h.1) refl

no_room_of : (limits : Limits) (used : Used) (a b : Bool) → nat_le used.instructions limits.instructions ≡ a → nat_le used.memory limits.memory ≡ b → (IsWithin limits used → ⊥) → a && b ≡ false
no_room_of limits used true true h k never = absurd (never (grind arith, grind arith))
no_room_of limits used true false h k never = refl
no_room_of limits used false b h k never = refl

no_room : (limits : Limits) (used : Used) → (IsWithin limits used → ⊥) → has_room limits used ≡ false
no_room limits used never = no_room_of limits used _ _ refl refl never

pub charged_good : (kind : Kind) (input : ℕ) (shown : List Datum) (memory : List ℕ) (old new : Meter) → IsWithin old.limits (used_after old kind input) → new ≡ record old { used = used_after old kind input }
    → charged kind input (state shown memory old) ≡ Good tt (state shown memory new)
unfolding charged
charged_good kind input shown memory old new h e = rw (room _ _ h, e) refl

pub charged_spent : (kind : Kind) (input : ℕ) (shown : List Datum) (memory : List ℕ) (old new : Meter) → (IsWithin old.limits (used_after old kind input) → ⊥) → new ≡ old
    → charged kind input (state shown memory old) ≡ Spent (state shown memory new)
unfolding charged
charged_spent kind input shown memory old new h e = rw (no_room _ _ h, e) refl

-- ---- exits

-- an act that ends does what comes after it, too
then_stops : {A B X Y : Type 0} (f : A → X) (g : B → Y) (x : Out X) (next : X → Act Y) (u : State) (e : ValueErr)
    → (let q : Result A ValueErr = Err e in Says q f x u) → let r : Result B ValueErr = Err e in Says r g (then_do x next) u
then_stops f g x next u (errs.Failed e) h = rw h refl
then_stops f g x next u errs.Spent h = rw h refl
then_stops f g x next u errs.NoMemory h = tt

pub then_exit : {A B X Y : Type 0} (f : A → X) (g : B → Y) (x : Out X) (next : X → Act Y) (u : State) (r : Result B ValueErr) (e : ValueErr)
    → IsErrAnd r (λ y. y ≡ e) → (let q : Result A ValueErr = Err e in Says q f x u) → Says r g (then_do x next) u
then_exit f g x next u (Ok b) e h k = absurd h
then_exit {A} {B} f g x next u (Err y) e h k = subst (λ (z : ValueErr). let r : Result B ValueErr = Err z in Says r g (then_do x next) u) (sym h) (then_stops f g x next u e k)

-- ---- results

bound_of : (size depth : ℕ) → (size ≤ 16777216 → depth ≤ 100 → ⊥) → nat_le size 16777216 && nat_le depth 100 ≡ false
bound_of size depth h = bound_by size depth _ _ refl refl h where
  bound_by : (size depth : ℕ) (a b : Bool) → nat_le size 16777216 ≡ a → nat_le depth 100 ≡ b → (size ≤ 16777216 → depth ≤ 100 → ⊥) → a && b ≡ false
  bound_by size depth true true e k never = absurd (never (grind arith) (grind arith))
  bound_by size depth true false e k never = refl
  bound_by size depth false b e k never = refl

pub shown_too_large : (d : Datum) (w : State) → (size_of d ≤ 16777216 → depth_of d ≤ 100 → ⊥) → shown_as_object d w ≡ Failed TOO_LARGE w
unfolding shown_as_object
shown_too_large d w h = rw (bound_of (size_of d) (depth_of d) h) refl

pub lt_true : (a b : ℕ) → a < b → nat_lt a b ≡ true
lt_true a b h = grind arith

pub lt_false : (a b : ℕ) → b ≤ a → nat_lt a b ≡ false
lt_false a b h = grind arith

pub length_shown : (os : List Datum) (ps : List ℕ) → length (shown_of os ps) ≡ length ps
length_shown os [] = refl
length_shown os (p ∷ ps) = ap suc (length_shown os ps)

shown_small : (d : Datum) (w : State) → size_of d ≤ 16777216 → depth_of d ≤ 100 → nat_le (size_of d) 16777216 && nat_le (depth_of d) 100 ≡ true
shown_small d w small shallow = rw (le_true _ _ small, le_true _ _ shallow) refl

-- a charge for which there is no room
pub shown_unpaid : {A B : Type 0} (f : A → Unit {0}) (g : B → ℕ) (d : Datum) (w u : State) (r : Result B ValueErr) (e : ValueErr) → size_of d ≤ 16777216 → depth_of d ≤ 100
    → IsErrAnd r (λ y. y ≡ e) → (let q : Result A ValueErr = Err e in Says q f (charged MemAlloc (size_of d) w) u) → Says r g (shown_as_object d w) u
unfolding shown_as_object
shown_unpaid f g d w u r e small shallow h k = rw (shown_small d w small shallow) (then_exit f g (charged MemAlloc (size_of d) w) _ u r e h k)

pub shown_full : (d : Datum) (os : List Datum) (ps : List ℕ) (memory : List ℕ) (old new : Meter) → size_of d ≤ 16777216 → depth_of d ≤ 100
    → charged MemAlloc (size_of d) (state (shown_of os ps) memory old) ≡ Good tt (state (shown_of os ps) memory new) → 1000000 ≤ length ps
    → shown_as_object d (state (shown_of os ps) memory old) ≡ Failed FULL_FRAME (state (shown_of os ps) memory new)
unfolding shown_as_object
shown_full d os ps memory old new small shallow paid full =
    rw (shown_small d (state (shown_of os ps) memory old) small shallow, paid, lt_false (length (shown_of os ps)) 1000000 (omega (arith, length_shown os ps))) refl

pub shown_good : (d : Datum) (os : List Datum) (ps : List ℕ) (after : List Datum) (memory : List ℕ) (old new : Meter) (word : ℕ) → size_of d ≤ 16777216 → depth_of d ≤ 100
    → charged MemAlloc (size_of d) (state (shown_of os ps) memory old) ≡ Good tt (state (shown_of os ps) memory new) → length ps < 1000000
    → after ≡ shown_of os ps ++ d ∷ [] → word ≡ object_word d (length ps)
    → shown_as_object d (state (shown_of os ps) memory old) ≡ Good word (state after memory new)
unfolding shown_as_object
shown_good d os ps after memory old new word small shallow paid few more is =
    rw (shown_small d (state (shown_of os ps) memory old) small shallow, paid, lt_true (length (shown_of os ps)) 1000000 (omega (arith, length_shown os ps)), more, is, length_shown os ps) refl

-- ---- sizes

pub capped_small : (n : ℕ) → n ≤ 16777216 → capped n ≡ n
unfolding capped
capped_small n h = omega arith

pub capped_is : (n r : ℕ) → r ≡ capped n → r ≤ 16777216 → r ≡ n
unfolding capped
capped_is n r h small = omega arith
