use Rattle.std.proofs.Common.{◌≡◌, take}
use Rattle.stage_runs.specs.Runs.{put_all_in}
use Rattle.set_steps.proofs.entries.put_all.Given as goal

abbrev pub invariant-loop-extension : goal.invariant-loop-extension
invariant-loop-extension l = l.entries ≡ put_all_in l.initial.entries (take l.extension-index l.extensions)
