use Rattle.std.proofs.Common.{◌≡◌, ◌++◌, All}
use Rattle.std.specs.List.{flat_map, fold}
use Rattle.set_steps.specs.Spelled.{AreEnvelopes}
use Rattle.set_steps.specs.Job.{AreDone, back}
use Rattle.set_steps.specs.declared.job.Job.{Job}
use Rattle.set_steps.proofs.parts.put_back.Given as goal

abbrev pub invariant-loop-job : goal.invariant-loop-job
invariant-loop-job l = record {
  entries : l.entries ≡ fold back l.initial.entries l.yielded;
  done : AreDone l.yielded l.dones.items;
  log : l.log.items ≡ l.initial.log.items ++ flat_map (λ (job : Job). job.log.items) l.yielded;
  left : All (λ job. AreEnvelopes job.envelopes.now) l.job-iterator.rest.items;
}
