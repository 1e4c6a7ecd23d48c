-- The machine behaves as a run describes (own).
use Rattle.std.specs.Prelude.{◌≡◌, ℕ, List}
use Rattle.budget_meter.specs.Meter.{Meter}
use Rattle.wasm_spec.specs.declared.module.Module.{Module}
use Rattle.wasm_spec.specs.Code.{BlockType}
use Rattle.wasm_spec.specs.Runs.{Run, Normal, Branch, Return, Trap, Spent, Stuck, Ask}
use Rattle.wasm_code.specs.declared.step.FlatCode.{FlatCode}
use Rattle.wasm_machine.specs.Machine.{Machine, Moved, Goes, Ends, Traps, RunsOut, Asks, move, resumed}

-- the machine reaches the second state from the first
pub data Comes (source : Module) (flat : FlatCode) : Machine → Machine → Type 0 where
  here : {m : Machine} → Comes source flat m m
  more : {m n o : Machine} → move source flat m ≡ Goes n → Comes source flat n o → Comes source flat m o

-- the machine reaches a state whose move is this
abbrev pub Stops : Module → FlatCode → Machine → Moved → Type 0
Stops source flat m out = (n : Machine) × Comes source flat m n × (move source flat n ≡ out)

-- the machine reaches a call of an import with this memory and budget, and n is the machine behind the call
pub record StopsToAsk (source : Module) (flat : FlatCode) (m : Machine) (f : ℕ) (args memory : List ℕ) (meter : Meter)
    (r : BlockType) (n : Machine) : Type 0 where
  pub stop : Machine
  pub comes : Comes source flat m stop
  pub asks : move source flat stop ≡ Asks f args r n
  pub bytes : n.state.store.memory.bytes ≡ memory
  pub budget : n.state.meter ≡ meter

-- From m the machine makes the run's calls of imports and ends as the run does. The run is not stuck.
abbrev pub Behaves : Module → FlatCode → Machine → Run → Type 0
Behaves source flat m (Normal ops s) = Stops source flat m (Ends ops s.meter)
Behaves source flat m (Branch k ops s) = ⊥
Behaves source flat m (Return ops s) = ⊥
Behaves source flat m (Trap kind meter) = Stops source flat m (Traps kind meter)
Behaves source flat m (Spent meter) = Stops source flat m (RunsOut meter)
Behaves source flat m Stuck = ⊥
Behaves source flat m (Ask f args memory meter on) =
    (r : BlockType) × (n : Machine) × StopsToAsk source flat m f args memory meter r n
    × ((v : ℕ) (bytes : List ℕ) (b : Meter) → Behaves source flat (resumed r v bytes b n) (on v bytes b))

-- the machine with this budget
abbrev pub budgeted : Meter → Machine → Machine
budgeted b m = record m { state = record m.state { meter = b } }

-- with any budget b, the machine behaves from m as the run `go b`
abbrev pub Stands : Module → FlatCode → Machine → (Meter → Run) → Type 0
Stands source flat m go = (b : Meter) → Behaves source flat (budgeted b m) (go b)

-- The machine waits for an import's result of type r. For each result, memory and budget it then behaves as `on` describes.
abbrev pub Waits : Module → FlatCode → Machine → BlockType → (ℕ → List ℕ → Meter → Run) → Type 0
Waits source flat m r on = (v : ℕ) (bytes : List ℕ) (b : Meter) → Behaves source flat (resumed r v bytes b m) (on v bytes b)
