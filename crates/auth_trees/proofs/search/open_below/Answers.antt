use Rattle.std.proofs.Common.{◌≡◌, ◌+◌, suc, ap, sym, ◌∙◌, subst, map, arith}
use Rattle.auth_types.specs.Views.{forest_of}
use Rattle.auth_trees.specs.Listed.{kept}
use Rattle.auth_trees.specs.Flat.{IsRowAt, first_open}
use Rattle.auth_trees.proofs.Walking.{row_below, is_below_it}
use Rattle.auth_trees.proofs.search.open_below.Goals as goal

pub first_open-requires-clause-row : goal.first_open-requires-clause-row
first_open-requires-clause-row c =
    let e : suc c.args.best.node ≡ c.args.best.node + 1 = omega arith in
    subst (λ n. IsRowAt (map kept c.args.nodes.now) n (forest_of c.as_slice-row.result.now)) e
    (row_below c.args.nodes.now c.args.taken.now c.args.function.now c.args.best c.index-nodes-best.result (forest_of c.as_slice-row.result.now) c.requires.within c.index-nodes-best.is (c.as_slice-row.ensures ∙ ap (λ m. m.tree.now.sub_invocations) (sym c.index-nodes-best.is)) c.requires.rows)

pub returns : goal.returns
returns c =
    let e : c.args.best.node + 1 ≡ suc c.args.best.node = omega arith in
    c.first_open.ensures ∙ ap (λ n. first_open c.args.taken.now c.args.function.now n (forest_of c.as_slice-row.result.now)) e
    ∙ is_below_it c.args.nodes.now c.args.taken.now c.args.function.now c.args.best c.index-nodes-best.result (forest_of c.as_slice-row.result.now) c.requires.within c.index-nodes-best.is (c.as_slice-row.ensures ∙ ap (λ m. m.tree.now.sub_invocations) (sym c.index-nodes-best.is))
