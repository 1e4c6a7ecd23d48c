-- Laws of runs (own).
use Rattle.std.specs.Prelude.{◌≡◌, ◌≢◌, ℕ, ◌-◌, ◌^◌, ◌<◌, ◌≤◌, List, [], ◌∷◌, length, map, reverse}
use Rattle.budget_meter.specs.declared.kind.Kind.TheVariants.{WasmInsnExec}
use Rattle.budget_meter.specs.Meter.{Meter}
use Rattle.wasm_spec.specs.declared.values.Value.TheVariants as value
use Rattle.wasm_spec.specs.declared.module.Module.{Module}
use Rattle.wasm_spec.specs.Typing.{Typed}
use Rattle.wasm_spec.specs.Stores.{Store}
use Rattle.wasm_spec.specs.Runs.{State, Run, Spent, charged, executed}
use Rattle.wasm_spec.specs.Spending.{IsLater, GoesOnSpending, Enough, PaidIfRoom}
use Rattle.wasm_spec.specs.Meaning.{MOST_CALLS, call_of, beginning, meaning}
use Rattle.wasm_spec.specs.Instances.{Ready, start_of}
use Rattle.wasm_spec.specs.Worlds.{Host, Returned, Trapped, Exhausted, Broken, after_reply, interp}
use Rattle.wasm_spec.specs.Sums.{NeverLowers}
use Rattle.wasm_run.specs.declared.instance.Event.{Event}
use Rattle.wasm_run.specs.declared.instance.Event.TheVariants as event
use Rattle.wasm_run.specs.Suspended.{Suspended, Awaits, Tells}

-- hosts

-- The outcome of a run with a host, by the run's first event. At a call of an import the host replies, and the instance goes on
-- with the rest of the run.
abbrev pub FoldsTo : {W Q : Type 0} → Host W Q → Run → Event → Meter → Suspended → W → Type 0
FoldsTo host r (event.Done n) b i w = interp host r w ≡ Returned (value.I64 n ∷ []) b w
FoldsTo host r (event.Trap kind) b i w = interp host r w ≡ Trapped kind b w
FoldsTo host r event.Spent b i w = interp host r w ≡ Exhausted b w
FoldsTo host r (event.HostCall f words) b i w =
    (on : (ℕ → List ℕ → Meter → Run)) × Awaits i on
    × (interp host r w ≡ after_reply (host f words i.store.memory.bytes b w)
    (λ v bytes c u. interp host (on v bytes c) u))

-- So a caller can fold its host over a call, event by event.
abbrev pub EventsFold : Type 0 → Type 0 → Type 0
EventsFold W Q =
    (host : Host W Q) (r : Run) (e : Event) (b : Meter) (i : Suspended) (w : W) → Tells r e b i → FoldsTo host r e b i w

-- A call of an export of a valid module is never broken, with any host.
abbrev pub NeverBreaks : Type 0 → Type 0 → Type 0
NeverBreaks W Q =
    (host : Host W Q) (m : Module) (export args : List ℕ) (f : ℕ) (store : Store) (b : Meter) (w : W)
    → Typed m → start_of m export (length args) ≡ Ready f store → interp host (meaning m f args store b) w ≢ Broken

-- charges

-- If an instruction costs at least 1, executing it ends the run as spent, or goes on with more instructions spent.
abbrev pub EachSpends : Type 0
EachSpends =
    (s : State) (go : State → Run) → 1 ≤ s.meter.terms.wasm_insn_exec.instructions.constant
    → GoesOnSpending s go (executed Spent s go)

-- the count of instructions

-- At the start of a call, the count allows as many instructions as the budget can pay for.
abbrev pub EnoughAtFirst : Type 0
EnoughAtFirst = (store : Store) (b : Meter) → b.limits.instructions < 2 ^ 64 → Enough (beginning store b)

-- If the count allows them, an instruction ends the run only if the budget has no room for it. Otherwise the count still allows
-- as many as the budget can pay for.
abbrev pub EnoughAfterEach : Type 0
EnoughAfterEach =
    (s : State) (go : State → Run) → Enough s → 1 ≤ s.meter.terms.wasm_insn_exec.instructions.constant
    → PaidIfRoom s go (executed Spent s go)

-- The same holds with any later budget, as after a growth of the memory or a reply of a host.
abbrev pub EnoughWhenLater : Type 0
EnoughWhenLater = (s : State) (b : Meter) → IsLater s.meter b → Enough s → Enough (record s { meter = b })

-- The count never ends a run before the budget does: while it allows as many instructions as the budget can pay for, executing
-- an instruction equals charging it.
abbrev pub CountNeverEnds : Type 0
CountNeverEnds = (s : State) (go : State → Run) → Enough s → 1 ≤ s.meter.terms.wasm_insn_exec.instructions.constant
    → executed Spent s go ≡ charged WasmInsnExec 1 Spent (record s { left = s.left - 1 }) go

-- With a host that never lowers the sums, a larger count does not change a call's outcome.
abbrev pub SameWithMore : Type 0 → Type 0 → Type 0
SameWithMore W Q = (host : Host W Q) (m : Module) (f : ℕ) (args : List ℕ) (store : Store) (b : Meter) (w : W) (count : ℕ)
    → NeverLowers host → b.limits.instructions < 2 ^ 64 → 1 ≤ b.terms.wasm_insn_exec.instructions.constant → 2 ^ 64 - 1 ≤ count
    → interp host (call_of m MOST_CALLS f (reverse (map value.I64 args)) (record (beginning store b) { left = count })) w
    ≡ interp host (meaning m f args store b) w
