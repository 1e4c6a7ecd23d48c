-- What an instruction spends, and when the instructions left cover the budget (this host's charges, outside the core).
use Rattle.std.specs.Prelude.{◌≡◌, ◌⊎◌, ℕ, ◌+◌, ◌-◌, ◌<◌, ◌≤◌, true, false}
use Rattle.budget_meter.specs.declared.kind.Kind.TheVariants.{WasmInsnExec}
use Rattle.budget_meter.specs.Meter.{Meter, used_after}
use Rattle.wasm_spec.specs.Runs.{State, Run, Spent, has_room}

-- the limits and terms are equal, and no sum is lower
pub record IsLater (old new : Meter) : Type 0 where
  pub limits : new.limits ≡ old.limits
  pub terms : new.terms ≡ old.terms
  pub instructions : old.used.instructions ≤ new.used.instructions
  pub memory : old.used.memory ≤ new.used.memory

-- the same limits and terms, with more instructions spent
pub record SpendsMore (old new : Meter) : Type 0 where
  pub limits : new.limits ≡ old.limits
  pub terms : new.terms ≡ old.terms
  pub instructions : old.used.instructions < new.used.instructions
  pub memory : old.used.memory ≤ new.used.memory

-- either the run ends as spent, or it continues with more spent
abbrev pub GoesOnSpending : State → (State → Run) → Run → Type 0
GoesOnSpending s go r =
    (r ≡ Spent s.meter) ⊎ ((k : ℕ) × (after : Meter) × SpendsMore s.meter after × (r ≡ go (record s { left = k; meter = after })))

-- at least as many instructions are left as the budget can pay for, at one each
abbrev pub Enough : State → Type 0
Enough s = s.meter.limits.instructions ≤ s.meter.used.instructions + s.left

-- the state after one instruction is counted and charged
abbrev pub paid : State → State
paid s = record s { left = s.left - 1; meter = record s.meter { used = used_after s.meter WasmInsnExec 1 } }

-- If the budget has no room for an instruction, the run ends as spent. Otherwise the run continues with one instruction counted
-- and charged.
abbrev pub PaidIfRoom : State → (State → Run) → Run → Type 0
PaidIfRoom s go r =
    ((has_room s.meter.limits (used_after s.meter WasmInsnExec 1) ≡ false) × (r ≡ Spent s.meter))
    ⊎ ((has_room s.meter.limits (used_after s.meter WasmInsnExec 1) ≡ true) × Enough (paid s) × (r ≡ go (paid s)))
