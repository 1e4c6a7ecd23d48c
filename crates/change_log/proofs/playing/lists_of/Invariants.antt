use Rattle.std.proofs.Common.{◌≡◌, ◌++◌, drop}
use Rattle.change_log.specs.Play.{lists_from}
use Rattle.change_log.specs.Views.{all_placed}
use Rattle.change_log.proofs.playing.lists_of.Given as goal

abbrev pub invariant-loop-stage : goal.invariant-loop-stage
invariant-loop-stage l = all_placed l.lists.items ++ lists_from l.stage (drop l.stage l.stages) ≡ lists_from 0 l.stages
