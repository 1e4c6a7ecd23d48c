use Rattle.std.proofs.Common.{refl}
use Rattle.set_steps.proofs.Lemmas.{run_on_same}
use Rattle.ledger_apply.proofs.job.ClusterWorkWorkJob.work.Goals as goal

pub returns-in-Ok : goal.returns-in-Ok
returns-in-Ok g c = record {
  same = refl;
  run = run_on_same c.replace-own.ensures.value c.in-Ok.ensures.run;
  keyed = c.in-Ok.ensures.keyed;
}
