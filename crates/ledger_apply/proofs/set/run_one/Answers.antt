use Rattle.std.specs.Prelude.{IfOk}
use Rattle.std.proofs.Common.{sym, subst}
use Rattle.apply_spec.specs.Enforced.{enforced}
use Rattle.ledger_parts.specs.Notes.{noted_in_stage}
use Rattle.set_steps.specs.LoggedLists.{written_sides, IsStageLog}
use Rattle.set_steps.specs.State.{between}
use Rattle.set_steps.specs.declared.stages.SetStage.{SetStage}
use Rattle.stage_runs.specs.Runs.{clusters_in, run_clusters, HasNoConflict}
use Rattle.set_steps.specs.Stages.{stage_of, IsSpelled}
use Rattle.set_steps.proofs.Lemmas.{component_in}
use Rattle.ledger_apply.proofs.set.run_one.Goals as goal

pub run_component-requires-clause-fits : goal.run_component-requires-clause-fits
run_component-requires-clause-fits g c κs within = component_in c.in-Component.component.now (subst (λ (s : SetStage). IsSpelled s) c.in-Component.is c.requires.fits)

pub run_stage-requires-clause-free : goal.run_stage-requires-clause-free
run_stage-requires-clause-free g c κs within = subst (λ (s : SetStage). HasNoConflict (clusters_in (stage_of s))) c.in-Parallel.is c.requires.free

pub returns-in-Parallel-clause-log : goal.returns-in-Parallel-clause-log
returns-in-Parallel-clause-log g c =
    let step = enforced c.args.header.now c.args.verdicts.now in
    let before = between c.args.entries.now c.args.reports.now in
    subst
    (λ (s : SetStage). IfOk c.run_stage.result (IsStageLog c.args.workers.now.logs
    (noted_in_stage step written_sides before (clusters_in (stage_of s)))
    (run_clusters step before (clusters_in (stage_of s))).entries c.run_stage.new.entries))
    (sym c.in-Parallel.is) c.run_stage.ensures.log
