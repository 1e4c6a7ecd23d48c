use Rattle.std.proofs.Common.{◌≡◌, ◌++◌, ◌∷◌, [], List, map, subst, sym, ap, ◌∙◌}
use Rattle.stage_runs.specs.Maps.{LedgerMap}
use Rattle.stage_runs.specs.Runs.{Cluster}
use Rattle.ledger_parts.specs.Cut.{left_of, cut_from}
use Rattle.apply_spec.specs.Enforced.{enforced}
use Rattle.apply_spec.proofs.Lemmas.{step_framed}
use Rattle.set_steps.specs.State.{between}
use Rattle.set_steps.specs.Job.{cluster_of, own_of, IsMovedOf, AreMoved}
use Rattle.set_steps.specs.declared.job.Job.{Job}
use Rattle.set_steps.proofs.Lemmas.{all_moved, ended_as_cut, logged_as_cut, one_cluster}
use Rattle.ledger_apply.proofs.stage.run_component.Goals as goal

pub run_parts-requires-clause-moved : goal.run_parts-requires-clause-moved
run_parts-requires-clause-moved g c κs within =
    let txs : Cluster = c.args.component.now.envelopes in
    let old = c.args.entries.now in
    let lent = c.cut_one.new.entries in
    let part = c.in_ok-part.part in
    let lent_is : lent ≡ left_of old (txs ∷ []) = c.in_ok-part.ensures.entries ∙ ap (λ (t : Cluster). left_of old (t ∷ [])) c.as_slice.ensures in
    let cluster_is : cluster_of part ≡ txs = c.in_ok-part.ensures.cluster ∙ c.as_slice.ensures in
    let items_are : c.push.new.self.items ≡ part ∷ [] = c.in_ok-push.ensures.items ∙ ap (λ (js : List Job). js ++ part ∷ []) c.in_ok-parts.ensures.items in
    subst (λ (js : List Job). AreMoved lent js) (sym items_are)
    (subst (λ (k : Cluster). IsMovedOf lent k) (sym cluster_is) (subst (λ (m : LedgerMap). IsMovedOf m txs) (sym lent_is) (all_moved old (txs ∷ [])).0), tt)

pub run_parts-requires-clause-same : goal.run_parts-requires-clause-same
run_parts-requires-clause-same g c κs within =
    let part = c.in_ok-part.part in
    let items_are : c.push.new.self.items ≡ part ∷ [] = c.in_ok-push.ensures.items ∙ ap (λ (js : List Job). js ++ part ∷ []) c.in_ok-parts.ensures.items in
    ap (map cluster_of) items_are ∙ ap (λ (k : Cluster). k ∷ []) (c.in_ok-part.ensures.cluster ∙ c.as_slice.ensures)

pub run_parts-requires-clause-spelled : goal.run_parts-requires-clause-spelled
run_parts-requires-clause-spelled g c κs within = one_cluster c.args.component.now c.requires.fits

pub returns-clause-run : goal.returns-clause-run
returns-clause-run g c =
    let step = enforced c.args.header.now c.args.verdicts.now in
    let txs : Cluster = c.args.component.now.envelopes in
    let old = c.args.entries.now in
    let before = c.args.reports.now in
    let lent = c.cut_one.new.entries in
    let part = c.in_ok-part.part in
    let js = c.push.new.self.items in
    let lent_is : lent ≡ left_of old (txs ∷ []) = c.in_ok-part.ensures.entries ∙ ap (λ (t : Cluster). left_of old (t ∷ [])) c.as_slice.ensures in
    let items_are : js ≡ part ∷ [] = c.in_ok-push.ensures.items ∙ ap (λ (js : List Job). js ++ part ∷ []) c.in_ok-parts.ensures.items in
    let clusters_are : map cluster_of js ≡ txs ∷ [] = ap (map cluster_of) items_are ∙ ap (λ (k : Cluster). k ∷ []) (c.in_ok-part.ensures.cluster ∙ c.as_slice.ensures) in
    let owns_are : map own_of js ≡ cut_from old (txs ∷ []) =
    ap (map own_of) items_are ∙ c.in_ok-part.ensures.own ∙ ap (λ (t : Cluster). cut_from old (t ∷ [])) c.as_slice.ensures in
    ended_as_cut step (step_framed c.args.header.now c.args.verdicts.now) old lent before (txs ∷ []) (tt, tt)
    (map own_of js) (map cluster_of js) lent_is owns_are clusters_are c.run_parts.result
    (between c.run_parts.new.entries c.run_parts.new.reports) c.run_parts.ensures.run

pub returns-clause-log : goal.returns-clause-log
returns-clause-log g c =
    let step = enforced c.args.header.now c.args.verdicts.now in
    let txs : Cluster = c.args.component.now.envelopes in
    let old = c.args.entries.now in
    let before = c.args.reports.now in
    let lent = c.cut_one.new.entries in
    let part = c.in_ok-part.part in
    let js = c.push.new.self.items in
    let lent_is : lent ≡ left_of old (txs ∷ []) = c.in_ok-part.ensures.entries ∙ ap (λ (t : Cluster). left_of old (t ∷ [])) c.as_slice.ensures in
    let items_are : js ≡ part ∷ [] = c.in_ok-push.ensures.items ∙ ap (λ (js : List Job). js ++ part ∷ []) c.in_ok-parts.ensures.items in
    let clusters_are : map cluster_of js ≡ txs ∷ [] = ap (map cluster_of) items_are ∙ ap (λ (k : Cluster). k ∷ []) (c.in_ok-part.ensures.cluster ∙ c.as_slice.ensures) in
    let owns_are : map own_of js ≡ cut_from old (txs ∷ []) =
    ap (map own_of) items_are ∙ c.in_ok-part.ensures.own ∙ ap (λ (t : Cluster). cut_from old (t ∷ [])) c.as_slice.ensures in
    logged_as_cut step (step_framed c.args.header.now c.args.verdicts.now) c.args.workers.now.logs old lent before (txs ∷ []) (tt, tt)
    (map own_of js) (map cluster_of js) lent_is owns_are clusters_are c.run_parts.result
    c.run_parts.new.entries c.run_parts.ensures.log
