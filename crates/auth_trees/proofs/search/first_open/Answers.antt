use Rattle.std.proofs.Common.{sym, ap, ◌∙◌, arith}
use Rattle.auth_types.specs.Views.{forest_of}
use Rattle.std.proofs.lemmas.List.{drop_all}
use Rattle.auth_trees.specs.Flat.{first_open}
use Rattle.auth_trees.proofs.Walking.{next_of, size_is, found_here, not_here, none_left}
use Rattle.auth_trees.proofs.search.first_open.Goals as goal

pub returns-then-is_open : goal.returns-then-is_open
returns-then-is_open c =
    let n = next_of c.args.nodes.now c.args.taken.now c.args.function.now c.loop-tree.id c.args.row.now c.loop-tree.tree-index c.tree-item.result _ c.loop-tree-test.true c.tree-item.is c.loop-tree.invariant.row c.loop-tree.invariant.same in
    found_here c.args.taken.now c.args.function.now c.loop-tree.id c.tree-item.result _ _ n.whole (sym c.is_open.ensures ∙ c.if-is_open.true)

pub overflow_add-id : goal.overflow_add-id
overflow_add-id c =
    let n = next_of c.args.nodes.now c.args.taken.now c.args.function.now c.loop-tree.id c.args.row.now c.loop-tree.tree-index c.tree-item.result _ c.loop-tree-test.true c.tree-item.is c.loop-tree.invariant.row c.loop-tree.invariant.same in
    omega (arith, size_is c.args.nodes.now c.loop-tree.id c.index-nodes-id.result _ n.here c.index-nodes-id.is, n.fits)

pub loop-tree-preserved : goal.loop-tree-preserved
loop-tree-preserved c =
    let n = next_of c.args.nodes.now c.args.taken.now c.args.function.now c.loop-tree.id c.args.row.now c.loop-tree.tree-index c.tree-item.result _ c.loop-tree-test.true c.tree-item.is c.loop-tree.invariant.row c.loop-tree.invariant.same in
    let s = size_is c.args.nodes.now c.loop-tree.id c.index-nodes-id.result _ n.here c.index-nodes-id.is in
    rw s (record { row = n.row; same = not_here c.args.taken.now c.args.function.now c.loop-tree.id c.tree-item.result _ _ n.whole (sym c.is_open.ensures ∙ c.if-is_open.false) })

pub returns : goal.returns
returns c =
    none_left c.args.taken.now c.args.function.now c.loop-tree.id _
    (ap (λ xs. first_open c.args.taken.now c.args.function.now c.loop-tree.id (forest_of xs)) (sym (drop_all c.loop-tree.tree-index c.args.row.now (omega arith))) ∙ c.loop-tree.invariant.same)
