use Rattle.std.proofs.Common.{◌≡◌, filter, take}
use Rattle.stage_runs.specs.Runs.{is_written, put_all_in}
use Rattle.set_place.proofs.cluster.put_written.Given as goal

abbrev pub invariant-loop-extension : goal.invariant-loop-extension
invariant-loop-extension l = l.ledger.entries ≡ put_all_in l.initial.ledger.entries (filter (is_written l.envelope) (take l.extension-index l.pending))
