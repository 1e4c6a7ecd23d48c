use Rattle.std.proofs.Common.{◌≡◌, map, take}
use Rattle.spec_apply.specs.Runs.{envelope_of}
use Rattle.spec_apply.proofs.list.jobs_of.Given as goal

abbrev pub invariant-loop-envelope : goal.invariant-loop-envelope
invariant-loop-envelope l = map envelope_of l.jobs.items ≡ take l.envelope-index l.list
