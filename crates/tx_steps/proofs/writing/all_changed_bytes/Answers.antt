use Rattle.std.specs.List.{sum_by}
use Rattle.std.proofs.Common.{◌≡◌, List, take, zero-add, ap, ◌∙◌, arith}
use Rattle.std.proofs.lemmas.Grind.{common_steps}
use Rattle.xdr_core.specs.Sizes.{capped}
use Rattle.contract_storage.specs.declared.changes.Change.{Change}
use Rattle.tx_steps.specs.Changed.{changed_bytes}
use Rattle.tx_steps.proofs.Adding.{capped_small, sum_more}
use Rattle.tx_steps.proofs.writing.all_changed_bytes.Goals as goal

pub loop-change-init : goal.loop-change-init
loop-change-init g c = capped_small 0 (omega arith)

pub loop-change-preserved : goal.loop-change-preserved
loop-change-preserved g c =
    c.add_sizes-total.ensures
    ∙ sum_more (changed_bytes c.args.n (g.G.Ground.map c.args.ground.now)) 0 c.args.changes.now c.loop-change.change-index c.change-item.result c.loop-change-test.true c.change-item.is
    c.loop-change.total c.changed_bytes.result c.loop-change.invariant c.changed_bytes.ensures

pub returns : goal.returns
returns g c =
    let f = changed_bytes c.args.n (g.G.Ground.map c.args.ground.now) in
    let all : take c.loop-change.change-index c.args.changes.now ≡ c.args.changes.now = grind (arith, common_steps) in
    c.loop-change.invariant
    ∙ ap capped (zero-add (sum_by f (take c.loop-change.change-index c.args.changes.now)) ∙ ap (λ (xs : List Change). sum_by f xs) all)
