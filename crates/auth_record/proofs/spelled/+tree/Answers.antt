use Rattle.std.proofs.Common.{◌-◌, ◌∙◌, sym, arith, rules}
use Rattle.auth_types.specs.Invocation.{one_level, subs_format}
use Rattle.auth_record.proofs.Bounding.{row_more, row_whole, trees_fit, no_trees_fit, none_in}
use Rattle.auth_record.proofs.spelled.+tree.Goals as goal

pub subs_fit-returns-then-levels-eq0 : goal.subs_fit-returns-then-levels-eq0
subs_fit-returns-then-levels-eq0 t c empty =
    no_trees_fit c.args.levels c.args.items.now c.if-levels-eq0.true (none_in c.args.items.now (sym c.is_empty.ensures ∙ empty))

pub subs_fit-loop-item-preserved : goal.subs_fit-loop-item-preserved
subs_fit-loop-item-preserved t c =
    row_more (one_level (subs_format (c.args.levels - 1))).fits c.args.items.now c.loop-item.item-index c.item-item.result c.loop-item-test.true c.item-item.is c.loop-item.invariant
    (c.tree_fits-good.ensures (search rules))

pub subs_fit-returns : goal.subs_fit-returns
subs_fit-returns t c _ =
    trees_fit c.args.levels c.args.items.now c.if-levels-eq0.false (omega arith)
    (row_whole (one_level (subs_format (c.args.levels - 1))).fits c.args.items.now c.loop-item.item-index (omega arith) c.loop-item.invariant)
