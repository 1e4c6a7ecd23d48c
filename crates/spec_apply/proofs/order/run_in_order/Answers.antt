use Rattle.std.specs.Prelude.{Result}
use Rattle.std.specs.Result.{IfOk}
use Rattle.std.proofs.Common.{[], ◌∷◌, List, length, map, sym, subst, ◌∙◌, arith}
use Rattle.std.proofs.lemmas.List.{length_push, map-append, map-id}
use Rattle.std.proofs.lemmas.Iterator.Adapters.{YieldsList-from_vec}
use Rattle.std.proofs.lemmas.Iterator.Consumers.{YieldsList-turn, YieldsList-end}
use Rattle.xdr_core.specs.declared.error.NoMemory.{NoMemory}
use Rattle.tx_xdr.specs.declared.envelope.Envelope.{Envelope}
use Rattle.spec_apply.specs.declared.job.Job.{Job}
use Rattle.spec_apply.specs.declared.run.Run.{Run}
use Rattle.spec_apply.specs.Passing.{IsPassed}
use Rattle.spec_apply.specs.Runs.{IsDoneJob, IsRunOn, envelope_of}
use Rattle.spec_apply.proofs.Passes.{passed_more}
use Rattle.spec_apply.proofs.order.run_in_order.Goals as goal

pub loop-job-preserved : goal.loop-job-preserved
loop-job-preserved c =
    let header = c.args.header.now in
    let verdicts = c.args.verdicts.now in
    let before = c.args.pass.now in
    let job = c.in-Some.job in
    let ran = c.loop-job.yielded in
    let next = c.in_ok-run_next.ensures in
    let t = YieldsList-turn (YieldsList-from_vec c.args.jobs.items (cc) (cc)) ran c.loop-job.job-iterator c.loop-job.yielded_by _ c.next.new.self job c.in-Some.is c.next.ensures.steps in
    record {
      passed = λ opening all are.
          let done : IsDoneJob header verdicts opening job = subst (IsDoneJob header verdicts opening) (sym t.1) (all (length ran) job t.0) in
          let on : IsRunOn header verdicts opening job.envelope.now c.in_ok-run.field-0 =
          subst (λ (r : Result Run NoMemory). IfOk r (IsRunOn header verdicts opening job.envelope.now)) c.in_ok-run.was done.run in
          let p = c.loop-job.invariant.passed opening all are in
          subst (λ (es : List Envelope). IsPassed header verdicts opening es before c.run_next.new.pass) (sym (map-append envelope_of ran (job ∷ [])))
          (passed_more header verdicts opening (map envelope_of ran) job.envelope.now before c.loop-job.pass c.run_next.new.pass p (next.next opening on p.moved));
      few = omega (arith, c.loop-job.invariant.few, next.few, length_push ran job);
    }

pub returns : goal.returns
returns c = λ opening all are.
    let t = YieldsList-end (YieldsList-from_vec c.args.jobs.items (cc) (cc)) c.loop-job.yielded c.loop-job.job-iterator c.loop-job.yielded_by _ c.next.new.self c.in-None.is c.next.ensures.steps in
    subst (λ (js : List Job). IsPassed c.args.header.now c.args.verdicts.now opening (map envelope_of js) c.args.pass.now c.loop-job.pass)
    (sym (map-id c.loop-job.yielded) ∙ t.0) (c.loop-job.invariant.passed opening all are)
