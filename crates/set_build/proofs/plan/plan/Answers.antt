use Rattle.std.proofs.Common.{◌+◌, take, arith, sym, subst}
use Rattle.stage_plan.specs.Spelled.{DeclaresSpelled}
use Rattle.set_build.specs.Built.{building}
use Rattle.set_build.specs.Known.{IsLast, ArePlanned, begun, named}
use Rattle.set_build.proofs.Planning.{begun_new, begun_old, plan_place, plan_there, plan_last, planned_more}
use Rattle.set_build.proofs.plan.plan.Goals as goal
use Rattle.set_build.proofs.plan.plan.Goals.{in-NewStage, in_default}

pub of-requires : goal.of-requires
of-requires c =
    subst DeclaresSpelled (sym c.envelope-item.is) (c.requires.spelled c.loop-envelope.envelope-index c.envelope-item.result c.loop-envelope-test.true)

pub put-requires-clause-there : goal.put-requires-clause-there
put-requires-clause-there c =
    let begins : IsLast (begun (building c.args.max_clusters (take c.loop-envelope.envelope-index c.args.envelopes.now)).last c.place-place.result) c.match-place.last =
    elim c.match-place.branch [
      | in-NewStage w ↦ begun_new (building c.args.max_clusters (take c.loop-envelope.envelope-index c.args.envelopes.now)).last c.place-place.result c.match-place.last w.new-last-in-NewStage.result w.in-NewStage.is w.last-is w.new-last-in-NewStage.ensures
      | in_default w ↦ begun_old (building c.args.max_clusters (take c.loop-envelope.envelope-index c.args.envelopes.now)).last c.place-place.result c.match-place.last c.loop-envelope.last w.in_default.not-NewStage w.last-is c.loop-envelope.invariant.0
    ] in
    plan_there c.args.max_clusters c.requires.some c.args.envelopes.now c.loop-envelope.envelope-index c.envelope-item.result (named c.in_ok-keys.keys) c.loop-envelope.last c.match-place.last c.place-place.result c.loop-envelope-test.true
    (let few = c.requires.few in omega (arith, few)) c.in_ok-keys.ensures.bytes c.loop-envelope.invariant.0 c.place-place.ensures begins

pub loop-envelope-preserved : goal.loop-envelope-preserved
loop-envelope-preserved c =
    let begins : IsLast (begun (building c.args.max_clusters (take c.loop-envelope.envelope-index c.args.envelopes.now)).last c.place-place.result) c.match-place.last =
    elim c.match-place.branch [
      | in-NewStage w ↦ begun_new (building c.args.max_clusters (take c.loop-envelope.envelope-index c.args.envelopes.now)).last c.place-place.result c.match-place.last w.new-last-in-NewStage.result w.in-NewStage.is w.last-is w.new-last-in-NewStage.ensures
      | in_default w ↦ begun_old (building c.args.max_clusters (take c.loop-envelope.envelope-index c.args.envelopes.now)).last c.place-place.result c.match-place.last c.loop-envelope.last w.in_default.not-NewStage w.last-is c.loop-envelope.invariant.0
    ] in (
      plan_last c.args.max_clusters c.requires.some c.args.envelopes.now c.loop-envelope.envelope-index c.envelope-item.result (named c.in_ok-keys.keys) c.loop-envelope.last c.match-place.last c.put.new.self c.place-place.result
          c.loop-envelope-test.true c.envelope-item.is c.in_ok-keys.ensures.bytes c.loop-envelope.invariant.0 c.place-place.ensures begins c.in_ok-put.ensures.keys c.in_ok-put.ensures.counts c.in_ok-put.ensures.ranked,
      subst (ArePlanned c.args.max_clusters c.args.envelopes.now (c.loop-envelope.envelope-index + 1)) (sym c.in_ok-push.ensures.items)
          (planned_more c.args.max_clusters c.requires.some c.args.envelopes.now c.loop-envelope.envelope-index c.envelope-item.result c.loop-envelope.places.items c.place-place.result c.loop-envelope-test.true
          c.envelope-item.is
          (plan_place c.args.max_clusters c.requires.some c.args.envelopes.now c.loop-envelope.envelope-index c.envelope-item.result (named c.in_ok-keys.keys) c.loop-envelope.last c.place-place.result
          (let lt = c.loop-envelope-test.true in omega (arith, lt)) c.in_ok-keys.ensures.bytes c.loop-envelope.invariant.0 c.place-place.ensures)
          c.loop-envelope.invariant.1),
    )
