-- What a budget is: limits, terms, and the sums spent so far (own).
use Rattle.std.specs.Prelude.{◌≡◌, ℕ}
use Rattle.budget_meter.specs.Costs.{terms_of, sums_after, IsWithin}
use Rattle.budget_meter.specs.declared.kind.Kind.{Kind}
use Rattle.budget_meter.specs.declared.kind.Kind.TheVariants.{WasmInsnExec}
use Rattle.budget_meter.specs.declared.terms.Terms.{Terms}
use Rattle.budget_meter.specs.declared.budget.Limits.{Limits}
use Rattle.budget_meter.specs.declared.budget.Used.{Used}

pub record Meter : Type 0 where
  pub limits : Limits
  pub terms : Terms
  pub used : Used

-- the sums after a charge for which there is room
abbrev pub used_after : Meter → Kind → ℕ → Used
used_after meter kind input = sums_after meter.used (terms_of meter.terms kind) input

-- an executed instruction was charged, for which there was room
pub record IsCharged (old new : Meter) : Type 0 where
  pub fits : IsWithin old.limits (used_after old WasmInsnExec 1)
  pub charged : new ≡ record old { used = used_after old WasmInsnExec 1 }

-- there is no room for an executed instruction
abbrev pub IsFull : Meter → Type 0
IsFull old = IsWithin old.limits (used_after old WasmInsnExec 1) → ⊥
