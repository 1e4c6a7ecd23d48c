use Rattle.std.proofs.Common.{sym, ap, subst, ◌∙◌}
use Rattle.stage_plan.proofs.Lemmas.{fold_more}
use Rattle.set_build.specs.Known.{who, IsMarked, met_on, met_with}
use Rattle.set_build.specs.declared.met.Met.{Met}
use Rattle.set_build.proofs.Declaring.{found_at}
use Rattle.set_build.proofs.declarer.met_all.Goals as goal

pub loop-key-preserved : goal.loop-key-preserved
loop-key-preserved c =
    let key = c.key-item.result in
    let marked : IsMarked key = subst IsMarked (sym c.key-item.is) (c.requires c.loop-key.key-index key c.loop-key-test.true) in
    c.with-all.ensures
    ∙ ap (met_with c.loop-key.all) (c.met_on.ensures ∙ ap (met_on c.args.writes) (c.copied.ensures ∙ c.get.ensures.value ∙ found_at key marked c.args.declarers.now))
    ∙ ap (λ (m : Met). met_with m (met_on c.args.writes (who c.args.declarers.now key.1.items))) c.loop-key.invariant
    ∙ sym (fold_more (λ n k. met_with n (met_on c.args.writes (who c.args.declarers.now k.1.items))) c.args.met c.args.keys.now c.loop-key.key-index key c.loop-key-test.true c.key-item.is)
