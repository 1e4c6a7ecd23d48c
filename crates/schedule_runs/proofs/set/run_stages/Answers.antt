use Rattle.std.proofs.Common.{◌∙◌, sym}
use Rattle.std.proofs.lemmas.List.{length-map}
use Rattle.stage_runs.specs.Runs.{clusters_in}
use Rattle.set_steps.specs.Stages.{clusters_of, stage_of}
use Rattle.schedule_runs.proofs.Stopping.{even_length}
use Rattle.schedule_runs.proofs.set.run_stages.Goals as goal

pub run_on-requires-clause-even : goal.run_on-requires-clause-even
run_on-requires-clause-even c =
    even_length 0 (clusters_of c.args.stages.now) c.args.orders.now (sym c.in_ok-stage.ensures ∙ c.in_default-2.is)
    ∙ length-map c.args.stages.now (λ s. clusters_in (stage_of s))
