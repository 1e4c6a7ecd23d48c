use Rattle.std.specs.List.{flat_map}
use Rattle.std.proofs.Common.{◌≡◌, map, take}
use Rattle.tx_xdr.specs.Stages.{stages_in}
use Rattle.set_steps.specs.Stages.{stage_of}
use Rattle.set_steps.proofs.stages.stages_of.Given as goal

abbrev pub invariant-loop-phase : goal.invariant-loop-phase
invariant-loop-phase l = map stage_of l.list.items ≡ flat_map stages_in (take l.phase-index l.phases)
