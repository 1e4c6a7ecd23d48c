use Rattle.std.proofs.Common.{◌≡◌, ◌+◌, ◌++◌, ◌∷◌, [], List, All, map, take, subst, sym, ap, ap₂, ◌∙◌}
use Rattle.std.proofs.lemmas.List.{map-append}
use Rattle.std.proofs.lemmas.List.Elements.{All-push}
use Rattle.tx_xdr.specs.declared.set.Cluster.{Cluster as SetCluster}
use Rattle.stage_runs.specs.Maps.{LedgerMap}
use Rattle.stage_runs.specs.Runs.{Cluster, Stage}
use Rattle.ledger_parts.specs.Cut.{left_of, cut_from}
use Rattle.set_steps.specs.Job.{cluster_of, own_of, IsCut}
use Rattle.set_steps.specs.declared.job.Job.{Job}
use Rattle.set_steps.proofs.Lists.{take_one_more}
use Rattle.set_steps.proofs.Cutting.{left_more, cut_more}
use Rattle.set_steps.proofs.parts.cut.Goals as goal

pub loop-cluster-preserved : goal.loop-cluster-preserved
loop-cluster-preserved c =
    let old = c.args.entries.now in
    let item = c.cluster-item.result in
    let i = c.loop-cluster.cluster-index in
    let env = λ (k : SetCluster). let txs : Cluster = k.envelopes in txs in
    let ran : Stage = map env (take i c.args.clusters.now) in
    let jobs = c.loop-cluster.jobs.items in
    let job = c.in_ok-job.job in
    let more : take (i + 1) c.args.clusters.now ≡ take i c.args.clusters.now ++ item ∷ [] = take_one_more c.args.clusters.now i item c.loop-cluster-test.true c.cluster-item.is in
    let mapped : map env (take (i + 1) c.args.clusters.now) ≡ ran ++ item.envelopes ∷ [] = ap (map env) more ∙ map-append env (take i c.args.clusters.now) (item ∷ []) in
    record {
      entries = c.in_ok-job.ensures.entries ∙ ap₂ (λ (m : LedgerMap) (t : Cluster). left_of m (t ∷ [])) c.loop-cluster.invariant.entries c.as_slice.ensures
          ∙ sym (left_more old ran item.envelopes) ∙ ap (left_of old) (sym mapped);
      clusters = ap (map cluster_of) c.in_ok-push.ensures.items ∙ map-append cluster_of jobs (job ∷ [])
          ∙ ap₂ (λ (xs : Stage) (t : Cluster). xs ++ t ∷ []) c.loop-cluster.invariant.clusters (c.in_ok-job.ensures.cluster ∙ c.as_slice.ensures) ∙ sym mapped;
      own = ap (map own_of) c.in_ok-push.ensures.items ∙ map-append own_of jobs (job ∷ [])
          ∙ ap₂ (λ (xs ys : List LedgerMap). xs ++ ys) c.loop-cluster.invariant.own
          (c.in_ok-job.ensures.own ∙ ap₂ (λ (m : LedgerMap) (t : Cluster). cut_from m (t ∷ [])) c.loop-cluster.invariant.entries c.as_slice.ensures)
          ∙ sym (cut_more old ran item.envelopes) ∙ ap (cut_from old) (sym mapped);
      cut = subst (λ (js : List Job). All IsCut js) (sym c.in_ok-push.ensures.items) (All-push IsCut jobs job c.loop-cluster.invariant.cut c.in_ok-job.ensures.cut);
    }
