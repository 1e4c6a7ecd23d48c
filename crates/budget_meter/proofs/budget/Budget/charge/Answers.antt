use Rattle.std.proofs.Common.{◌+◌, ◌≤◌, refl, sym, ap, ◌∙◌, subst}
use Rattle.budget_meter.specs.Costs.{cost_of}
use Rattle.budget_meter.specs.Meter.{Meter}
use Rattle.budget_meter.specs.declared.budget.Used.{Used}
use Rattle.budget_meter.proofs.budget.Budget.charge.Goals as goal

pub returns-clause-fits : goal.returns-clause-fits
returns-clause-fits c =
    let s = c.spent-used.ensures.sums ∙ ap (λ (m : Meter). m.used) (sym c.self.view_is) in
    rw (← c.self.view_is, ← c.of-terms.ensures) (
      λ _. (
        subst (λ (u : Used). u.instructions + cost_of c.of-terms.result.instructions c.args.input ≤ c.self.inside.limits.instructions) s (c.in_ok-instructions.ensures.fits.0 refl),
        subst (λ (u : Used). u.memory + cost_of c.of-terms.result.memory c.args.input ≤ c.self.inside.limits.memory) s (c.in_ok-memory.ensures.fits.0 refl),
      ),
      λ _. refl,
    )
