use Rattle.std.proofs.Common.{◌∙◌, length, sym, ap}
use Rattle.std.proofs.lemmas.List.{length-map}
use Rattle.schedule_runs.specs.Lanes.{clusters_in}
use Rattle.schedule_runs.proofs.Counting.{complete_is, counts_length}
use Rattle.schedule_runs.proofs.complete.is_complete.Goals as goal

pub have_lengths-requires : goal.have_lengths-requires
have_lengths-requires c =
    let counted = rw c.in-Some.is at c.in_ok-counts.ensures.counts in
    ap length (c.deref.ensures.value ∙ counted) ∙ counts_length 0 (length c.args.lanes.now) c.args.order.now

pub returns-in-Some : goal.returns-in-Some
returns-in-Some c =
    let counted = rw c.in-Some.is at c.in_ok-counts.ensures.counts in
    let all = rw c.in-Some.is at c.in_ok-counts.ensures.all in
    c.have_lengths.ensures
    ∙ complete_is (length c.args.lanes.now) c.args.order.now (clusters_in c.args.lanes.now) c.deref.result.now (sym (length-map c.args.lanes.now (λ l. l.cluster.now))) (c.deref.ensures.value ∙ counted) (sym all)
