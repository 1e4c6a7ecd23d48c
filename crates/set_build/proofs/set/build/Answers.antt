use Rattle.std.specs.List.{AllByRecursion}
use Rattle.std.proofs.Common.{◌≤◌, All, List, length, map, sym, ap, subst, ◌∙◌}
use Rattle.tx_xdr.specs.Set.{set_format}
use Rattle.tx_xdr.specs.declared.set.TxSet.{TxSet}
use Rattle.stage_runs.specs.Transactions.{Envelope}
use Rattle.stage_runs.specs.Runs.{Stage}
use Rattle.stage_plan.specs.Spelled.{DeclaresSpelled}
use Rattle.set_build.specs.Built.{built_stages, stage_with}
use Rattle.set_build.specs.Placed.{IsSound, IsArranged, cluster_count, stages_in}
use Rattle.set_build.proofs.Planning.{planned_as}
use Rattle.set_build.proofs.Building.{built_is, built_law, none_in, stages_of_built}
use Rattle.set_build.proofs.Spelling.{declare_spelled, few_enough, built_few, built_fits}
use Rattle.set_build.proofs.set.build.Goals as goal

pub plan-requires-clause-spelled : goal.plan-requires-clause-spelled
plan-requires-clause-spelled c = subst (All DeclaresSpelled) (sym c.as_slice.ensures) (declare_spelled c.args.envelopes c.requires.spelled)

pub plan-requires-clause-few : goal.plan-requires-clause-few
plan-requires-clause-few c = subst (λ (xs : List Envelope). length xs ≤ 4294967295) (sym c.as_slice.ensures) (few_enough c.args.envelopes c.requires.spelled)

pub moved-requires : goal.moved-requires
moved-requires c = (
  c.args.max_clusters,
  c.requires.some,
  planned_as c.args.max_clusters c.as_slice.result.now c.into_vec.result.items c.in_ok-places.places.items c.deref.result.now (c.as_slice.ensures ∙ sym c.into_vec.ensures) c.deref.ensures.value
      c.in_ok-places.ensures,
)

pub returns-clause-built : goal.returns-clause-built
returns-clause-built c =
    built_is c.args.max_clusters c.args.envelopes c.in_ok-stages.stages.items c.in_ok-set.set c.in_ok-set.ensures
    (c.in_ok-stages.ensures c.args.max_clusters
    (planned_as c.args.max_clusters c.as_slice.result.now c.into_vec.result.items c.in_ok-places.places.items c.deref.result.now (c.as_slice.ensures ∙ sym c.into_vec.ensures) c.deref.ensures.value
    c.in_ok-places.ensures)
    ∙ ap (built_stages c.args.max_clusters) c.into_vec.ensures)

pub returns-clause-stages : goal.returns-clause-stages
returns-clause-stages c = (map stage_with (built_stages c.args.max_clusters c.args.envelopes), returns-clause-built c)

pub returns-clause-sound : goal.returns-clause-sound
returns-clause-sound c =
    subst (AllByRecursion (IsSound c.args.max_clusters)) (sym (ap stages_in (returns-clause-built c) ∙ stages_of_built c.args.max_clusters c.args.envelopes))
    (built_law c.args.max_clusters c.args.envelopes c.requires.some).0

pub returns-clause-arranged : goal.returns-clause-arranged
returns-clause-arranged c =
    subst (IsArranged c.args.envelopes) (sym (ap stages_in (returns-clause-built c) ∙ stages_of_built c.args.max_clusters c.args.envelopes))
    (built_law c.args.max_clusters c.args.envelopes c.requires.some).1

pub returns-clause-free : goal.returns-clause-free
returns-clause-free c = none_in c.args.max_clusters (stages_in c.in_ok-set.set) (returns-clause-sound c)

pub returns-clause-few : goal.returns-clause-few
returns-clause-few c =
    subst (λ (ss : List Stage). cluster_count ss ≤ length c.args.envelopes) (sym (ap stages_in (returns-clause-built c) ∙ stages_of_built c.args.max_clusters c.args.envelopes))
    (built_few c.args.max_clusters c.requires.some c.requires.few c.args.envelopes c.requires.spelled)

pub returns-clause-fits : goal.returns-clause-fits
returns-clause-fits c =
    subst (λ (s : TxSet). set_format.fits s) (sym (returns-clause-built c)) (built_fits c.args.max_clusters c.requires.some c.requires.few c.args.envelopes c.requires.spelled)
