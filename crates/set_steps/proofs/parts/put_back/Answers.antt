use Rattle.std.proofs.Common.{◌++◌, ◌∷◌, [], List, subst, sym, ap, ◌∙◌}
use Rattle.std.proofs.lemmas.List.Sums.{fold-append}
use Rattle.stage_runs.specs.Maps.{LedgerMap}
use Rattle.set_steps.specs.Spelled.{AreEnvelopes}
use Rattle.set_steps.specs.Job.{AreDone, back}
use Rattle.set_steps.specs.declared.running.ClusterDone.{ClusterDone}
use Rattle.set_steps.specs.declared.job.Job.{Job}
use Rattle.std.specs.List.{flat_map}
use Rattle.std.proofs.lemmas.List.{append_assoc}
use Rattle.change_log.specs.Log.{Changes}
use Rattle.set_steps.proofs.Lists.{flat_map_one_more, rest_of}
use Rattle.set_steps.proofs.Back.{done_more}
use Rattle.set_steps.proofs.parts.put_back.Goals as goal

pub loop-job-preserved : goal.loop-job-preserved
loop-job-preserved c =
    let old = c.args.entries.now in
    let ran = c.loop-job.yielded in
    let job = c.in-Some.job in
    let one = c.in_ok-one.one in
    let lists = λ (j : Job). j.log.items in
    record {
      entries = c.in_ok-move_written.ensures.to ∙ ap (λ (m : LedgerMap). back m job) c.loop-job.invariant.entries ∙ sym (fold-append back old ran (job ∷ []));
      done = subst (λ (ds : List ClusterDone). AreDone (ran ++ job ∷ []) ds) (sym c.in_ok-push.ensures.items) (done_more ran c.loop-job.dones.items job one c.loop-job.invariant.done c.in_ok-one.was);
      log = c.in_ok-append.ensures.items
          ∙ ap (λ (ls : List Changes). ls ++ job.log.items) c.loop-job.invariant.log
          ∙ append_assoc c.args.log.now.items (flat_map lists ran) job.log.items
          ∙ ap (λ (ls : List Changes). c.args.log.now.items ++ ls) (sym (flat_map_one_more lists ran job));
      left = rest_of (λ (j : Job). AreEnvelopes j.envelopes.now) c.loop-job.job-iterator.rest.items job c.next.new.self.rest.items c.in-Some.ensures.steps.0 c.loop-job.invariant.left;
    }
