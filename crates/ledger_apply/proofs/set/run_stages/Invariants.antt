use Rattle.std.proofs.Common.{◌≡◌, true, take}
use Rattle.stage_runs.specs.Runs.{run_set}
use Rattle.apply_spec.specs.Enforced.{enforced}
use Rattle.change_log.specs.Fits.{AreKept}
use Rattle.set_steps.specs.LoggedLists.{AreStageLogs}
use Rattle.set_steps.specs.State.{between}
use Rattle.set_steps.specs.Stages.{clusters_of}
use Rattle.ledger_apply.proofs.set.run_stages.Given as goal

abbrev pub invariant-loop-index : goal.invariant-loop-index
invariant-loop-index g l = record {
  run : between l.entries l.reports ≡ run_set (enforced l.header l.verdicts) (between l.initial.entries l.initial.reports) (clusters_of (take l.index l.stages));
  kept : l.workers.logs ≡ true → AreKept l.entries;
  log : AreStageLogs l.workers.logs (enforced l.header l.verdicts) (between l.initial.entries l.initial.reports) (clusters_of (take l.index l.stages)) l.entries l.log.items;
}
