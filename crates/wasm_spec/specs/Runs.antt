-- Runs of code under a budget (core section 4.4, with this host's charges).
use Rattle.std.specs.Prelude.{ℕ, zero, suc, ◌&&◌, nat_le, List, [], ◌∷◌, ◌++◌, Bool, true, false, Option, Some, None}
use Rattle.budget_meter.specs.declared.kind.Kind.{Kind}
use Rattle.budget_meter.specs.declared.kind.Kind.TheVariants.{WasmInsnExec, MemAlloc}
use Rattle.budget_meter.specs.declared.budget.Limits.{Limits}
use Rattle.budget_meter.specs.declared.budget.Used.{Used}
use Rattle.budget_meter.specs.Meter.{Meter, used_after}
use Rattle.wasm_spec.specs.declared.values.Value.{Value}
use Rattle.wasm_spec.specs.declared.values.TrapKind.{TrapKind}
use Rattle.wasm_spec.specs.Code.{BlockType}
use Rattle.wasm_spec.specs.Stores.{Store}
use Rattle.wasm_spec.specs.Effects.{Effect, Leaves, Grows, Faults, Lacks}

-- The state of a call besides its operands: its locals, the store, the number of instructions that may still be executed, and the
-- budget. The budget's limits are below 2 ^ 64 and each instruction spends at least one, so if left starts at 2 ^ 64 - 1, the
-- budget is spent first.
pub record State : Type 0 where
  pub locals : List Value
  pub store : Store
  pub left : ℕ
  pub meter : Meter

-- The outcome of a run. Ask is a call of an import: on is the rest of the run, for each answer, memory and budget that the host
-- may return. Every outcome but Stuck carries the budget's sums. A run of a valid module is never Stuck.
pub data Run : Type 0 where
  Normal : (operands : List Value) (s : State) → Run
  Branch : (depth : ℕ) (operands : List Value) (s : State) → Run
  Return : (operands : List Value) (s : State) → Run
  Trap : (kind : TrapKind) (meter : Meter) → Run
  Spent : (meter : Meter) → Run
  Stuck : Run
  Ask : (function : ℕ) (args memory : List ℕ) (meter : Meter) (on : (answer : ℕ) (memory : List ℕ) (meter : Meter) → Run) → Run

-- charges

-- no sum is above its limit
abbrev pub has_room : Limits → Used → Bool
has_room limits used = nat_le used.instructions limits.instructions && nat_le used.memory limits.memory

abbrev pub charged_if : {A : Type 0} → Bool → (Meter → A) → Meter → State → (State → A) → A
charged_if false spent after s go = spent s.meter
charged_if true spent after s go = go (record s { meter = after })

-- Makes a charge and then runs go. If the charge would exceed a limit, the run ends as spent and the sums stay unchanged.
abbrev pub charged : {A : Type 0} → Kind → ℕ → (Meter → A) → State → (State → A) → A
charged kind input spent s go =
    let used = used_after s.meter kind input in
    charged_if (has_room s.meter.limits used) spent (record s.meter { used = used }) s go

abbrev pub counted : {A : Type 0} → ℕ → (Meter → A) → State → (State → A) → A
counted zero spent s go = spent s.meter
counted (suc n) spent s go = charged WasmInsnExec 1 spent (record s { left = n }) go

-- Counts and charges one instruction and then runs go.
abbrev pub executed : {A : Type 0} → (Meter → A) → State → (State → A) → A
executed spent s go = counted s.left spent s go

-- the run of an instruction with this effect
abbrev pub effect_run : Effect → State → Run
effect_run (Leaves ops locals store) s = Normal ops (record s { locals = locals; store = store })
effect_run (Grows bytes ops locals store) s =
    charged MemAlloc bytes Spent s (λ s. Normal ops (record s { locals = locals; store = store }))
effect_run (Faults kind) s = Trap kind s.meter
effect_run Lacks s = Stuck

-- sequences of runs

-- runs go after a run that ended normally
abbrev pub then_do : Run → (List Value → State → Run) → Run
then_do (Normal ops s) go = go ops s
then_do (Branch k ops s) go = Branch k ops s
then_do (Return ops s) go = Return ops s
then_do (Trap kind meter) go = Trap kind meter
then_do (Spent meter) go = Spent meter
then_do Stuck go = Stuck
then_do (Ask f args memory meter on) go = Ask f args memory meter (λ v bytes b. then_do (on v bytes b) go)

-- the values that a branch carries to its label
abbrev pub carried : BlockType → List Value → Option (List Value)
carried None ops = Some []
carried (Some t) [] = None
carried (Some t) (v ∷ ops) = Some (v ∷ [])

-- the values of a block that ended normally: it has exactly the operands of its type
abbrev pub whole : BlockType → List Value → Option (List Value)
whole None [] = Some []
whole None (v ∷ ops) = None
whole (Some t) [] = None
whole (Some t) (v ∷ []) = Some (v ∷ [])
whole (Some t) (v ∷ w ∷ ops) = None

-- pushes the values onto the operands below the block
abbrev pub onto : List Value → State → Option (List Value) → Run
onto under s None = Stuck
onto under s (Some vs) = Normal (vs ++ under) s

-- the run of a block, from the run of its body (4.4.6: exiting a block, and branches to its label)
abbrev pub leave : BlockType → List Value → Run → Run
leave t under (Normal ops s) = onto under s (whole t ops)
leave t under (Branch zero ops s) = onto under s (carried t ops)
leave t under (Branch (suc k) ops s) = Branch k ops s
leave t under (Return ops s) = Return ops s
leave t under (Trap kind meter) = Trap kind meter
leave t under (Spent meter) = Spent meter
leave t under Stuck = Stuck
leave t under (Ask f args memory meter on) = Ask f args memory meter (λ v bytes b. leave t under (on v bytes b))

-- runs go at a branch back to the start of the loop
abbrev pub again : (State → Run) → Run → Run
again go (Normal ops s) = Normal ops s
again go (Branch zero ops s) = go s
again go (Branch (suc k) ops s) = Branch (suc k) ops s
again go (Return ops s) = Return ops s
again go (Trap kind meter) = Trap kind meter
again go (Spent meter) = Spent meter
again go Stuck = Stuck
again go (Ask f args memory meter on) = Ask f args memory meter (λ v bytes b. again go (on v bytes b))

-- At most n iterations of a loop. Each branch back executes an instruction, so no loop makes more iterations than one plus the
-- instructions left.
abbrev pub turns : ℕ → (State → Run) → State → Run
turns zero body s = Spent s.meter
turns (suc n) body s = again (turns n body) (body s)
