use denote.Param.Send.{sendable}
use Rattle.set_steps.specs.Spelled.{AreEnvelopes}
use Rattle.ledger_apply.proofs.Crosses.{work_sync}
use Rattle.set_steps.proofs.Lemmas.{can_all, job_send}
use Rattle.ledger_apply.proofs.parts.work_all.Goals as goal

pub run_each-requires-send-J : goal.run_each-requires-send-J
run_each-requires-send-J g c κs within = search (job_send, sendable) depth 20 fits 5000

pub run_each-requires-sync-W : goal.run_each-requires-sync-W
run_each-requires-sync-W g c κs within = let z = c.type_bounds.sync-T in search (work_sync, sendable) depth 20 fits 5000

pub run_each-requires-clause-can : goal.run_each-requires-clause-can
run_each-requires-clause-can g c κs within = can_all (λ job. AreEnvelopes job.envelopes.now) 0 c.args.jobs.now c.requires.fits
