-- What a function over values does: it returns, fails or spends the budget, and leaves a state (own).
use Rattle.std.specs.Prelude.{ℕ, ◌≡◌, List, Bool, true, false, Result, Ok, Err}
use Rattle.budget_meter.specs.declared.kind.Kind.{Kind}
use Rattle.budget_meter.specs.Meter.{Meter, used_after}
use Rattle.wasm_spec.specs.Runs.{has_room}
use Rattle.value_types.specs.Datum.{Datum}
use Rattle.value_types.specs.declared.error.ScError.{ScError}
use Rattle.host_spec.specs.declared.error.ValueErr.{ValueErr}
use Rattle.host_spec.specs.declared.error.ValueErr.TheVariants as ends

-- what a function over values sees: the values shown in the frame, the frame's linear memory, the budget
pub record State : Type 0 where
  pub shown : List Datum
  pub memory : List ℕ
  pub meter : Meter

abbrev pub state : List Datum → List ℕ → Meter → State
state shown memory meter = record { shown = shown; memory = memory; meter = meter }

pub data Out (A : Type 0) : Type 0 where
  Good : A → State → Out A
  Failed : ScError → State → Out A
  Spent : State → Out A

abbrev pub Act : Type 0 → Type 0
Act A = State → Out A

abbrev pub then_do : {A B : Type 0} → Out A → (A → Act B) → Out B
then_do (Good a w) next = next a w
then_do (Failed e w) next = Failed e w
then_do (Spent w) next = Spent w

abbrev pub gives : {A : Type 0} → A → Act A
gives a w = Good a w

abbrev pub fails : {A : Type 0} → ScError → Act A
fails e w = Failed e w

-- fails unless the test holds
abbrev pub only_where : {A : Type 0} → Bool → ScError → Act A → Act A
only_where true e act = act
only_where false e act = fails e

abbrev pub charged_if : Bool → Meter → Act (Unit {0})
charged_if true after w = Good tt (record w { meter = after })
charged_if false after w = Spent w

-- a charge; if it would exceed a limit, the sums stay as they are
unfoldable pub charged : Kind → ℕ → Act (Unit {0})
charged kind input w =
    let used = used_after w.meter kind input in
    charged_if (has_room w.meter.limits used) (record w.meter { used = used }) w

-- an act after a charge
abbrev pub paying : {A : Type 0} → Kind → ℕ → Act A → Act A
paying kind input act w = then_do (charged kind input w) (λ _. act)

-- A call of the program does what an act does, from the state before it to the state after it. Memory may run out at any time.
abbrev pub Says : {A B : Type 0} → Result A ValueErr → (A → B) → Out B → State → Type 0
Says (Ok a) view out w = out ≡ Good (view a) w
Says (Err (ends.Failed e)) view out w = out ≡ Failed e w
Says (Err ends.Spent) view out w = out ≡ Spent w
Says (Err ends.NoMemory) view out w = Unit {0}
