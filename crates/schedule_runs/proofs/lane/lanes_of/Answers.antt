use Rattle.std.proofs.Common.{List, sym, subst}
use Rattle.stage_runs.specs.Transactions.{Envelope}
use Rattle.set_steps.specs.Spelled.{AreEnvelopes}
use Rattle.set_steps.proofs.Lemmas.{component_in}
use Rattle.schedule_runs.proofs.lane.lanes_of.Goals as goal

pub open-requires : goal.open-requires
open-requires c =
    subst (λ (envelopes : List Envelope). AreEnvelopes envelopes) (sym c.as_slice.ensures) (component_in c.in-Component.component.now (rw c.in-Component.is at c.requires))
