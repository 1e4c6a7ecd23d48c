-- The state of an instance, and what it does from there (own).
use Rattle.std.specs.Prelude.{◌≡◌, ℕ, ◌+◌, ◌-◌, ◌*◌, ◌<◌, List, [], ◌∷◌, length, drop, Result, Ok, Err}
use Rattle.budget_meter.specs.Meter.{Meter}
use Rattle.wasm_spec.specs.declared.values.Value.{Value}
use Rattle.wasm_spec.specs.declared.values.Value.TheVariants as value
use Rattle.wasm_spec.specs.declared.module.Module.{Module}
use Rattle.wasm_spec.specs.Code.{BlockType}
use Rattle.wasm_spec.specs.Stores.{Store}
use Rattle.wasm_spec.specs.Runs.{Run, Normal, Branch, Return, Trap, Spent, Stuck, Ask}
use Rattle.wasm_spec.specs.Meaning.{NamesImport}
use Rattle.wasm_spec.specs.Instances.{Missing, WrongArity, Segment, Ready, start_of}
use Rattle.wasm_code.specs.declared.step.FlatCode.{FlatCode}
use Rattle.wasm_machine.specs.declared.machine.MachineState.{MachineState}
use Rattle.wasm_machine.specs.Machine.{Frame, Machine, resumed}
use Rattle.wasm_machine.specs.Behaves.{Behaves}
use Rattle.wasm_run.specs.declared.error.StartErr.{StartErr}
use Rattle.wasm_run.specs.declared.error.StartErr.TheVariants as err
use Rattle.wasm_run.specs.declared.instance.CallPhase.{CallPhase}
use Rattle.wasm_run.specs.declared.instance.CallPhase.TheVariants as phase
use Rattle.wasm_run.specs.declared.instance.Event.{Event}
use Rattle.wasm_run.specs.declared.instance.Event.TheVariants as event

-- An instance: its module and code, and the machine's state. While the instance waits for an import's result, the topmost
-- operand is reserved for it.
pub record Suspended : Type 0 where
  pub source : Module
  pub flat : FlatCode
  pub phase : CallPhase
  pub pc : ℕ
  pub operands : List Value
  pub locals : List Value
  pub frames : List Frame
  pub store : Store
  pub left : ℕ

abbrev pub suspended : Module → FlatCode → CallPhase → MachineState → Suspended
suspended source flat phase r = record {
  source = source;
  flat = flat;
  phase = phase;
  pc = r.pc;
  operands = r.operands;
  locals = r.locals.items;
  frames = r.frames;
  store = r.store;
  left = r.left;
}

-- the machine, with this budget
abbrev pub standing : Suspended → Meter → Machine
standing i b = record {
  pc = i.pc;
  operands = i.operands;
  state = record { locals = i.locals; store = i.store; left = i.left; meter = b };
  frames = i.frames;
}

-- the machine without the operand that is reserved for an import's result
abbrev pub behind : Suspended → Meter → Machine
behind i b = standing (record i { operands = drop 1 i.operands }) b

-- a run of the module that returns one i64 where it ends normally, and calls imports with as many arguments as they have
-- parameters
abbrev pub GivesWord : Module → Run → Type 0
GivesWord m (Normal ops s) = (n : ℕ) × (ops ≡ value.I64 n ∷ [])
GivesWord m (Branch k ops s) = ⊥
GivesWord m (Return ops s) = ⊥
GivesWord m (Trap kind meter) = Unit {0}
GivesWord m (Spent meter) = Unit {0}
GivesWord m Stuck = ⊥
GivesWord m (Ask f args memory meter on) =
    NamesImport m f args × ((v : ℕ) (bytes : List ℕ) (b : Meter) → GivesWord m (on v bytes b))

-- from m the machine behaves as the run, which returns one i64
abbrev pub Goes : Module → FlatCode → Machine → Run → Type 0
Goes source flat m run = Behaves source flat m run × GivesWord source run

-- the instance is ready, and with any budget b it behaves as the run `go b`
abbrev pub Does : Suspended → (Meter → Run) → Type 0
Does i go = (i.phase ≡ phase.Ready) × ((b : Meter) → Goes i.source i.flat (standing i b) (go b))

-- for each import's result of this type, memory and budget, the instance then behaves as `on` describes
abbrev pub GoesOnWith : BlockType → Suspended → (ℕ → List ℕ → Meter → Run) → Type 0
GoesOnWith r i on = (v : ℕ) (bytes : List ℕ) (b : Meter) → Goes i.source i.flat (resumed r v bytes b (behind i b)) (on v bytes b)

-- the instance waits for an import's result, and then behaves as `on` describes
abbrev pub Awaits : Suspended → (ℕ → List ℕ → Meter → Run) → Type 0
Awaits i on = (r : BlockType) × (i.phase ≡ phase.Waiting r) × GoesOnWith r i on

-- The event is the run's first, with this budget. At a call of an import the instance waits for its result.
abbrev pub Tells : Run → Event → Meter → Suspended → Type 0
Tells (Normal ops s) (event.Done n) b i = (ops ≡ value.I64 n ∷ []) × (b ≡ s.meter)
Tells (Normal ops s) _ b i = ⊥
Tells (Trap kind meter) (event.Trap k) b i = (k ≡ kind) × (b ≡ meter)
Tells (Trap kind meter) _ b i = ⊥
Tells (Spent meter) event.Spent b i = b ≡ meter
Tells (Spent meter) _ b i = ⊥
Tells (Ask f args memory meter on) (event.HostCall g words) b i =
    (g ≡ f) × (words ≡ args) × (i.store.memory.bytes ≡ memory) × (b ≡ meter) × Awaits i on
Tells (Ask f args memory meter on) _ b i = ⊥
Tells (Branch k ops s) _ b i = ⊥
Tells (Return ops s) _ b i = ⊥
Tells Stuck _ b i = ⊥

-- the event names an import of the module, with as many words as it has parameters
abbrev pub EventNames : Module → Event → Type 0
EventNames m (event.HostCall f words) = NamesImport m f words
EventNames m (event.Done n) = Unit {0}
EventNames m (event.Trap k) = Unit {0}
EventNames m event.Spent = Unit {0}

-- the phase of the instance after an event
abbrev pub StandsAfter : Event → Suspended → Type 0
StandsAfter (event.HostCall f words) i = (r : BlockType) × (i.phase ≡ phase.Waiting r)
StandsAfter (event.Done n) i = i.phase ≡ phase.Over
StandsAfter (event.Trap k) i = i.phase ≡ phase.Over
StandsAfter event.Spent i = i.phase ≡ phase.Over

-- a measure of the work that is left
abbrev pub work : Suspended → ℕ
work i = (i.left * 2 + length i.frames) * (length i.flat.steps + 1) + (length i.flat.steps - i.pc)

-- at a call of an import less work is left than before
abbrev pub IsNearer : Event → Suspended → Suspended → Type 0
IsNearer (event.HostCall f words) old new = work new < work old
IsNearer (event.Done n) old new = Unit {0}
IsNearer (event.Trap k) old new = Unit {0}
IsNearer event.Spent old new = Unit {0}

-- the instance is to be started, with this function of the module, number of arguments and store
pub record IsFresh (i : Suspended) (m : Module) (function arity : ℕ) (store : Store) : Type 0 where
  pub phase_ : i.phase ≡ phase.Fresh function arity
  pub module_ : i.source ≡ m
  pub store_ : i.store ≡ store

-- The instance is at the start of the call of the export, or the error is the defined one, unless memory ran out.
abbrev pub IsNew : Module → List ℕ → ℕ → Result Suspended StartErr → Type 0
IsNew m export n (Ok i) = (f : ℕ) × (store : Store) × (start_of m export n ≡ Ready f store) × IsFresh i m f n store
IsNew m export n (Err err.Missing) = start_of m export n ≡ Missing
IsNew m export n (Err err.WrongArity) = start_of m export n ≡ WrongArity
IsNew m export n (Err err.Segment) = start_of m export n ≡ Segment
IsNew m export n (Err err.NoMemory) = Unit {0}
