use Rattle.std.proofs.Common.{◌++◌, List, sym, ap, ap₂, ◌∙◌}
use Rattle.std.proofs.lemmas.List.{append_assoc}
use Rattle.std.proofs.lemmas.List.Sums.{fold-append}
use Rattle.ledger_spec.specs.LedgerMap.{LedgerMap}
use Rattle.stage_runs.specs.declared.Extension.{Extension}
use Rattle.stage_runs.specs.Runs.{Reported, put_in, put_all_in}
use Rattle.set_steps.specs.State.{pending_of, reports_of, IsKeyed}
use Rattle.set_steps.proofs.Lists.{rest_of}
use Rattle.set_steps.proofs.Merging.{pending_more, reports_more}
use Rattle.set_steps.proofs.stage_end.end_stage.Goals as goal

pub loop-one-preserved : goal.loop-one-preserved
loop-one-preserved c =
    let old = c.args.entries.now in
    let ran = c.loop-one.yielded in
    let one = c.in-Some.one in
    record {
      entries = c.put_all.ensures ∙ ap₂ (λ (m : LedgerMap) (xs : List Extension). put_all_in m xs) c.loop-one.invariant.entries c.deref.ensures.value
          ∙ sym (fold-append put_in old (pending_of ran) one.pending.items) ∙ ap (put_all_in old) (sym (pending_more ran one));
      reports = c.in_ok-append.ensures ∙ ap (λ (rs : List Reported). rs ++ one.reports) c.loop-one.invariant.reports
          ∙ append_assoc c.args.reports.now (reports_of ran) one.reports ∙ ap (λ (rs : List Reported). c.args.reports.now ++ rs) (sym (reports_more ran one));
      left = rest_of IsKeyed c.loop-one.one-iterator.rest.items one c.next.new.self.rest.items c.in-Some.ensures.steps.0 c.loop-one.invariant.left;
    }
