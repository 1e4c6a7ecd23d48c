use Rattle.std.proofs.Common.{List, sym, subst}
use Rattle.stage_runs.specs.Transactions.{Envelope}
use Rattle.set_steps.specs.Spelled.{AreEnvelopes}
use Rattle.set_steps.proofs.Lemmas.{component_in}
use Rattle.set_place.proofs.stage.run_whole.Goals as goal

pub run_next-requires-clause-fits : goal.run_next-requires-clause-fits
run_next-requires-clause-fits c =
    subst (λ (envelopes : List Envelope). AreEnvelopes envelopes) (sym c.as_slice-envelopes.ensures)
    (component_in c.in-Component.component.now (rw c.in-Component.is at c.requires.fits))
