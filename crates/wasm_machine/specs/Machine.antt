-- The machine that runs flat code (own).
use Rattle.std.specs.Prelude.{ℕ, zero, suc, ◌+◌, ◌-◌, nat_lt, min, List, [], ◌∷◌, ◌++◌, length, map, Option, Some, None}
use Rattle.std.specs.Prelude.{slice_get, Bool, true, false}
use Rattle.budget_meter.specs.declared.kind.Kind.TheVariants.{MemAlloc}
use Rattle.budget_meter.specs.Meter.{Meter}
use Rattle.wasm_spec.specs.declared.types.ValueType.TheVariants.{I32}
use Rattle.wasm_spec.specs.declared.types.FuncType.{FuncType}
use Rattle.wasm_spec.specs.declared.values.Value.{Value}
use Rattle.wasm_spec.specs.declared.values.TrapKind.{TrapKind}
use Rattle.wasm_spec.specs.declared.values.TrapKind.TheVariants.{Unreachable, OutOfBounds, IndirectType, EmptyElement, CallDepth}
use Rattle.wasm_spec.specs.declared.module.Function.{Function}
use Rattle.wasm_spec.specs.declared.module.Module.{Module}
use Rattle.wasm_spec.specs.Code.{BlockType}
use Rattle.wasm_spec.specs.Typing.{function_type, result_of}
use Rattle.wasm_spec.specs.Stores.{number_of, answered, pop, with_bytes}
use Rattle.wasm_spec.specs.Effects.{Effect, Leaves, Grows, Faults, Lacks, effect_of}
use Rattle.wasm_spec.specs.Runs.{State, charged, executed}
use Rattle.wasm_spec.specs.Meaning.{at_zero, same_function_type, arguments, start_locals, is_import, MOST_CALLS}
use Rattle.wasm_code.specs.declared.step.Step.{Step}
use Rattle.wasm_code.specs.declared.step.Step.TheVariants as step
use Rattle.wasm_code.specs.declared.step.Target.{Target}
use Rattle.wasm_code.specs.declared.step.FlatCode.{FlatCode}

-- a call that waits for its callee: the index of the step behind the call, and its locals
pub record Frame : Type 0 where
  pub pc : ℕ
  pub locals : List Value

-- the state of a run: the index of the next step, the operands of all open calls with the topmost first, the state of the
-- innermost call, and the waiting calls
pub record Machine : Type 0 where
  pub pc : ℕ
  pub operands : List Value
  pub state : State
  pub frames : List Frame

-- the outcome of one move
pub data Moved : Type 0 where
  Goes : Machine → Moved
  Ends : (operands : List Value) (meter : Meter) → Moved
  Traps : (kind : TrapKind) (meter : Meter) → Moved
  RunsOut : (meter : Meter) → Moved
  Fails : Moved
  Asks : (function : ℕ) (args : List ℕ) (result : BlockType) → Machine → Moved

-- charges an instruction and goes on
abbrev pub pays : Machine → (Machine → Moved) → Moved
pays m go = executed RunsOut m.state (λ s. go (record m { state = s }))

-- to the next step, with these operands
abbrev pub on_with : List Value → Machine → Machine
on_with ops m = record m { pc = m.pc + 1; operands = ops }

abbrev pub affects : Effect → Machine → Moved
affects (Leaves ops locals store) m =
    Goes (record m { pc = m.pc + 1; operands = ops; state = record m.state { locals = locals; store = store } })
affects (Grows bytes ops locals store) m =
    charged MemAlloc bytes RunsOut m.state
    (λ s. Goes (record m { pc = m.pc + 1; operands = ops; state = record s { locals = locals; store = store } }))
affects (Faults kind) m = Traps kind m.state.meter
affects Lacks m = Fails

-- branches

-- without the n topmost operands
abbrev pub removed : ℕ → List Value → Option (List Value)
removed zero ops = Some ops
removed (suc n) [] = None
removed (suc n) (v ∷ ops) = removed n ops

abbrev pub keeping : Value → Option (List Value) → Option (List Value)
keeping v None = None
keeping v (Some ops) = Some (v ∷ ops)

-- without n operands under the value that a branch carries
abbrev pub cut : BlockType → ℕ → List Value → Option (List Value)
cut None n ops = removed n ops
cut (Some t) n [] = None
cut (Some t) n (v ∷ ops) = keeping v (removed n ops)

abbrev pub goes_to : ℕ → Machine → Option (List Value) → Moved
goes_to pc m None = Fails
goes_to pc m (Some ops) = Goes (record m { pc = pc; operands = ops })

abbrev pub jumps : Option Target → ℕ → Machine → Moved
jumps None n m = Fails
jumps (Some t) n m = goes_to t.pc m (cut t.result n m.operands)

-- branches as an entry of a branch table says
abbrev pub jumps_by : FlatCode → Option Step → Machine → Moved
jumps_by flat (Some (step.Jump id n)) m = jumps (slice_get flat.targets id) n m
jumps_by flat _ m = Fails

abbrev pub skips : Bool → ℕ → Machine → Moved
skips true to m = Goes (record m { pc = to })
skips false to m = Fails

-- calls

-- the number of further calls that can be open
abbrev pub room_of : List Frame → ℕ
room_of frames = MOST_CALLS - 1 - length frames

abbrev pub taking : Option (List Value × List Value) → (List Value → List Value → Moved) → Moved
taking None go = Fails
taking (Some a) go = go a.0 a.1

abbrev pub enters : ℕ → Function → ℕ → List Value → List Value → Machine → Moved
enters zero f entry args under m = Traps CallDepth m.state.meter
enters (suc room) f entry args under m = Goes (record {
  pc = entry;
  operands = under;
  state = record m.state { locals = start_locals f args };
  frames = (record { pc = m.pc + 1; locals = m.state.locals }) ∷ m.frames;
})

abbrev pub calls_own : Option Function → Option ℕ → FuncType → Machine → Moved
calls_own None entry t m = Fails
calls_own (Some f) None t m = Fails
calls_own (Some f) (Some entry) t m =
    taking (arguments (length t.params) [] m.operands) (λ args under. enters (room_of m.frames) f entry args under m)

abbrev pub asks : FuncType → ℕ → Machine → Moved
asks t f m =
    taking (arguments (length t.params) [] m.operands) (λ args under. Asks f (map number_of args) (result_of t) (on_with under m))

-- the call of a function of the type, an import or a function of the module
abbrev pub calls : Module → FlatCode → Bool → Option FuncType → ℕ → Machine → Moved
calls source flat imported None f m = Fails
calls source flat true (Some t) f m = asks t f m
calls source flat false (Some t) f m =
    calls_own (slice_get source.functions (f - length source.imports))
    (slice_get flat.entries (f - length source.imports)) t m

-- the call of the function of the index
abbrev pub calls_at : Module → FlatCode → ℕ → Machine → Moved
calls_at source flat f m = calls source flat (is_import source f) (function_type source f) f m

abbrev pub calls_if : Bool → Module → FlatCode → ℕ → Machine → Moved
calls_if false source flat f m = Traps IndirectType m.state.meter
calls_if true source flat f m = calls_at source flat f m

abbrev pub calls_typed : Module → FlatCode → FuncType → Option FuncType → ℕ → Machine → Moved
calls_typed source flat wanted None f m = Fails
calls_typed source flat wanted (Some t) f m = calls_if (same_function_type wanted t) source flat f m

abbrev pub calls_element : Module → FlatCode → FuncType → Option (Option ℕ) → Machine → Moved
calls_element source flat wanted None m = Traps OutOfBounds m.state.meter
calls_element source flat wanted (Some None) m = Traps EmptyElement m.state.meter
calls_element source flat wanted (Some (Some f)) m = calls_typed source flat wanted (function_type source f) f m

abbrev pub calls_indirect : Module → FlatCode → Option FuncType → ℕ → Machine → Moved
calls_indirect source flat None n m = Fails
calls_indirect source flat (Some wanted) n m = calls_element source flat wanted (slice_get m.state.store.table n) m

abbrev pub asks_from_outside : Option FuncType → ℕ → Machine → Moved
asks_from_outside None f m = Fails
asks_from_outside (Some t) f m = asks t f m

abbrev pub returns : List Frame → Machine → Moved
returns [] m = Ends m.operands m.state.meter
returns (f ∷ fs) m = Goes (record { pc = f.pc; operands = m.operands; state = record m.state { locals = f.locals }; frames = fs })

-- the steps that are free of charge

abbrev pub is_free : Step → Bool
is_free (step.Skip to) = true
is_free (step.Import f) = true
is_free step.End = true
is_free _ = false

abbrev pub passes : Module → Step → Machine → Moved
passes source (step.Skip to) m = skips (nat_lt m.pc to) to m
passes source (step.Import f) m = asks_from_outside (function_type source f) f m
passes source step.End m = returns m.frames m
passes source _ m = Fails

-- the other steps, once they are charged

abbrev pub executes : Module → FlatCode → Step → Machine → Moved
executes source flat (step.Plain p) m = affects (effect_of p m.operands m.state.locals m.state.store) m
executes source flat step.Unreachable m = Traps Unreachable m.state.meter
executes source flat step.Pass m = Goes (on_with m.operands m)
executes source flat (step.Unless to) m =
    pop Fails I32 m.operands (λ n ops. Goes (record m { pc = at_zero n to (m.pc + 1); operands = ops }))
executes source flat (step.Jump id n) m = jumps (slice_get flat.targets id) n m
executes source flat (step.JumpIf id n) m =
    pop Fails I32 m.operands (λ v ops. at_zero v (Goes (on_with ops m))
    (jumps (slice_get flat.targets id) n (record m { operands = ops })))
executes source flat (step.Table count) m =
    pop Fails I32 m.operands (λ v ops. jumps_by flat (slice_get flat.steps (m.pc + 1 + min v count))
    (record m { operands = ops }))
executes source flat (step.Call f) m = calls_at source flat f m
executes source flat (step.CallIndirect t) m =
    pop Fails I32 m.operands (λ v ops. calls_indirect source flat (slice_get source.types t) v
    (record m { operands = ops }))
executes source flat _ m = Fails

abbrev pub moves_if : Bool → Module → FlatCode → Step → Machine → Moved
moves_if true source flat i m = passes source i m
moves_if false source flat i m = pays m (executes source flat i)

abbrev pub moves : Module → FlatCode → Option Step → Machine → Moved
moves source flat None m = Fails
moves source flat (Some i) m = moves_if (is_free i) source flat i m

abbrev pub move : Module → FlatCode → Machine → Moved
move source flat m = moves source flat (slice_get flat.steps m.pc) m

-- goes on with an import's result, and the memory and budget after the import's call
abbrev pub resumed : BlockType → ℕ → List ℕ → Meter → Machine → Machine
resumed r v bytes b m =
    record m {
      operands = answered r v ++ m.operands;
      state = record m.state { store = with_bytes bytes m.state.store; meter = b };
    }
