use Rattle.std.proofs.Common.{◌≡◌, take, sym, subst, arith}
use Rattle.std.proofs.lemmas.Grind.{common_steps}
use Rattle.contract_storage.specs.declared.changes.Change.{Change}
use Rattle.tx_steps.specs.Changed.{CanStand}
use Rattle.tx_steps.proofs.ByKey.{leads_next, lie_next, leads_all}
use Rattle.tx_steps.proofs.changes.by_key.Goals as goal

pub loop-change-preserved : goal.loop-change-preserved
loop-change-preserved c =
    let es = c.loop-change.changed.entries in
    let new = c.put.new.changed.entries in
    let can : CanStand c.change-item.result = subst (λ (x : Change). CanStand x) (sym c.change-item.is) (c.requires c.loop-change.change-index c.change-item.result c.loop-change-test.true) in (
      leads_next c.args.changes.now c.loop-change.change-index c.change-item.result c.loop-change-test.true c.change-item.is es new c.in_ok-put.ensures can.fits c.loop-change.invariant.0,
      lie_next es new c.change-item.result c.in_ok-put.ensures can c.loop-change.invariant.1,
    )

pub returns-clause-leads : goal.returns-clause-leads
returns-clause-leads c =
    let all : take c.loop-change.change-index c.args.changes.now ≡ c.args.changes.now = grind (arith, common_steps) in
    leads_all c.args.changes.now _ c.loop-change.changed.entries all c.loop-change.invariant.0
