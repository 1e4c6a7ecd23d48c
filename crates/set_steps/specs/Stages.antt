-- The stages of a set as the code lists them (own).
use Rattle.std.specs.Prelude.{List, map}
use Rattle.tx_xdr.specs.Stages.{component_stage}
use Rattle.tx_xdr.specs.declared.set.Stage.{Stage}
use Rattle.stage_runs.specs.Runs as runs
use Rattle.set_steps.specs.declared.stages.SetStage.{SetStage}
use Rattle.set_steps.specs.declared.stages.SetStage.TheVariants.{Component, Parallel}
use Rattle.set_steps.specs.Spelled.{IsStage}

-- a component is a stage of one cluster
abbrev pub stage_of : SetStage → Stage
stage_of (Component component) = component_stage component.now
stage_of (Parallel stage) = stage.now

-- the clusters of these stages
abbrev pub clusters_of : List SetStage → List runs.Stage
clusters_of stages = map (λ stage. runs.clusters_in (stage_of stage)) stages

-- the stage is within its XDR format
abbrev pub IsSpelled : SetStage → Type 0
IsSpelled stage = IsStage (stage_of stage)
