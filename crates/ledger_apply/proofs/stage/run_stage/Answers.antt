use Rattle.std.proofs.Common.{◌≡◌, List, map, subst, sym, ap, ◌∙◌}
use Rattle.std.specs.List.{AllByRecursion}
use Rattle.tx_xdr.specs.declared.set.Cluster.{Cluster as SetCluster}
use Rattle.stage_runs.specs.Maps.{LedgerMap}
use Rattle.stage_runs.specs.Runs.{Cluster, Stage, clusters_in}
use Rattle.ledger_parts.specs.Cut.{left_of, cut_from}
use Rattle.apply_spec.specs.Enforced.{enforced}
use Rattle.apply_spec.proofs.Lemmas.{step_framed}
use Rattle.set_steps.specs.State.{between}
use Rattle.set_steps.specs.Job.{cluster_of, own_of, IsMovedOf}
use Rattle.set_steps.proofs.Lemmas.{all_moved, ended_as_cut, logged_as_cut, of_clusters}
use Rattle.ledger_apply.proofs.stage.run_stage.Goals as goal

pub run_parts-requires-clause-moved : goal.run_parts-requires-clause-moved
run_parts-requires-clause-moved g c κs within =
    let old = c.args.entries.now in
    let lent = c.cut.new.entries in
    let cs = clusters_in c.args.stage.now in
    let env = λ (k : SetCluster). let txs : Cluster = k.envelopes in txs in
    let lent_is : lent ≡ left_of old cs = c.in_ok-parts.ensures.entries ∙ ap (λ (xs : List SetCluster). left_of old (map env xs)) c.as_slice.ensures in
    let clusters_are : map cluster_of c.in_ok-parts.parts.items ≡ cs = c.in_ok-parts.ensures.clusters ∙ ap (map env) c.as_slice.ensures in
    of_clusters (IsMovedOf lent) c.in_ok-parts.parts.items
    (subst (λ (ks : Stage). AllByRecursion (IsMovedOf lent) ks) (sym clusters_are) (subst (λ (m : LedgerMap). AllByRecursion (IsMovedOf m) cs) (sym lent_is) (all_moved old cs)))

pub run_parts-requires-clause-same : goal.run_parts-requires-clause-same
run_parts-requires-clause-same g c κs within =
    let env = λ (k : SetCluster). let txs : Cluster = k.envelopes in txs in
    c.in_ok-parts.ensures.clusters ∙ ap (map env) c.as_slice.ensures

pub returns-clause-run : goal.returns-clause-run
returns-clause-run g c =
    let step = enforced c.args.header.now c.args.verdicts.now in
    let old = c.args.entries.now in
    let before = c.args.reports.now in
    let lent = c.cut.new.entries in
    let cs = clusters_in c.args.stage.now in
    let env = λ (k : SetCluster). let txs : Cluster = k.envelopes in txs in
    let lent_is : lent ≡ left_of old cs = c.in_ok-parts.ensures.entries ∙ ap (λ (xs : List SetCluster). left_of old (map env xs)) c.as_slice.ensures in
    let clusters_are : map cluster_of c.in_ok-parts.parts.items ≡ cs = c.in_ok-parts.ensures.clusters ∙ ap (map env) c.as_slice.ensures in
    let owns_are : map own_of c.in_ok-parts.parts.items ≡ cut_from old cs = c.in_ok-parts.ensures.own ∙ ap (λ (xs : List SetCluster). cut_from old (map env xs)) c.as_slice.ensures in
    ended_as_cut step (step_framed c.args.header.now c.args.verdicts.now) old lent before cs c.requires.free
    (map own_of c.in_ok-parts.parts.items) (map cluster_of c.in_ok-parts.parts.items) lent_is owns_are clusters_are
    c.run_parts.result (between c.run_parts.new.entries c.run_parts.new.reports) c.run_parts.ensures.run

pub returns-clause-log : goal.returns-clause-log
returns-clause-log g c =
    let step = enforced c.args.header.now c.args.verdicts.now in
    let old = c.args.entries.now in
    let before = c.args.reports.now in
    let lent = c.cut.new.entries in
    let cs = clusters_in c.args.stage.now in
    let env = λ (k : SetCluster). let txs : Cluster = k.envelopes in txs in
    let lent_is : lent ≡ left_of old cs = c.in_ok-parts.ensures.entries ∙ ap (λ (xs : List SetCluster). left_of old (map env xs)) c.as_slice.ensures in
    let clusters_are : map cluster_of c.in_ok-parts.parts.items ≡ cs = c.in_ok-parts.ensures.clusters ∙ ap (map env) c.as_slice.ensures in
    let owns_are : map own_of c.in_ok-parts.parts.items ≡ cut_from old cs = c.in_ok-parts.ensures.own ∙ ap (λ (xs : List SetCluster). cut_from old (map env xs)) c.as_slice.ensures in
    logged_as_cut step (step_framed c.args.header.now c.args.verdicts.now) c.args.workers.now.logs old lent before cs c.requires.free
    (map own_of c.in_ok-parts.parts.items) (map cluster_of c.in_ok-parts.parts.items) lent_is owns_are clusters_are
    c.run_parts.result c.run_parts.new.entries c.run_parts.ensures.log
