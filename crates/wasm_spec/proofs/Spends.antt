-- Budgets that follow each other.
use Rattle.std.proofs.Common.{◌≡◌, ℕ, refl, sym, ◌∙◌, subst, arith}
use Rattle.budget_meter.specs.declared.kind.Kind.{Kind}
use Rattle.budget_meter.specs.Meter.{Meter, used_after}
use Rattle.wasm_spec.specs.Spending.{IsLater}

pub same : (b : Meter) → IsLater b b
same b = record { limits = refl; terms = refl; instructions = omega arith; memory = omega arith }

pub later : (a b c : Meter) → IsLater a b → IsLater b c → IsLater a c
later a b c h g = record { limits = g.limits ∙ h.limits; terms = g.terms ∙ h.terms; instructions = omega arith; memory = omega arith }

pub charged_later : (b c : Meter) (kind : Kind) (input : ℕ) → c ≡ record b { used = used_after b kind input } → IsLater b c
charged_later b c kind input e = subst (IsLater b) (sym e) (record { limits = refl; terms = refl; instructions = omega arith; memory = omega arith })
