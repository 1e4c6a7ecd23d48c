use Rattle.std.proofs.Common.{All, map, sym, ap, subst, ◌∙◌}
use Rattle.std.proofs.lemmas.List.{with_items_is}
use Rattle.tx_xdr.specs.Envelope.{envelope_format}
use Rattle.tx_xdr.specs.declared.envelope.Envelope.{Envelope}
use Rattle.spec_apply.specs.declared.job.Job.{Job}
use Rattle.spec_apply.specs.Runs.{IsDoneJob, envelope_of}
use Rattle.spec_apply.proofs.Passes.{all_worked, jobs_fit}
use Rattle.spec_apply.proofs.list.run_on_opening.Goals as goal

abbrev Fits : Envelope → Type 0
Fits envelope = envelope_format.fits envelope

abbrev FitsJob : Job → Type 0
FitsJob job = envelope_format.fits job.envelope.now

pub work_all-requires-clause-fits : goal.work_all-requires-clause-fits
work_all-requires-clause-fits g c κs within =
    subst (All FitsJob) (sym c.deref_mut.ensures.value) (jobs_fit c.in_ok-jobs.jobs.items (subst (All Fits) (sym c.in_ok-jobs.ensures) c.requires.fits))

pub returns-clause-same : goal.returns-clause-same
returns-clause-same g c =
    let fit : All FitsJob c.deref_mut.result.now =
    subst (All FitsJob) (sym c.deref_mut.ensures.value) (jobs_fit c.in_ok-jobs.jobs.items (subst (All Fits) (sym c.in_ok-jobs.ensures) c.requires.fits)) in
    let done = all_worked c.args.header.now c.args.verdicts.now c.args.opening.now 0 c.deref_mut.result.now c.work_all.new.jobs c.work_all.ensures fit in
    ap (map envelope_of) (with_items_is c.in_ok-jobs.jobs c.work_all.new.jobs (c.work_all.auto.jobs ∙ c.deref_mut.ensures.len))
    ∙ done.1 ∙ ap (map envelope_of) c.deref_mut.ensures.value ∙ c.in_ok-jobs.ensures

pub returns-clause-done : goal.returns-clause-done
returns-clause-done g c =
    let fit : All FitsJob c.deref_mut.result.now =
    subst (All FitsJob) (sym c.deref_mut.ensures.value) (jobs_fit c.in_ok-jobs.jobs.items (subst (All Fits) (sym c.in_ok-jobs.ensures) c.requires.fits)) in
    let done = all_worked c.args.header.now c.args.verdicts.now c.args.opening.now 0 c.deref_mut.result.now c.work_all.new.jobs c.work_all.ensures fit in
    subst (All (IsDoneJob c.args.header.now c.args.verdicts.now c.args.opening.now))
    (sym (with_items_is c.in_ok-jobs.jobs c.work_all.new.jobs (c.work_all.auto.jobs ∙ c.deref_mut.ensures.len))) done.0
