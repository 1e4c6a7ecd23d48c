use Rattle.std.proofs.Common.{◌+◌, ◌-◌, ◌*◌, take}
use Rattle.std.specs.List.{AllByRecursion}
use Rattle.auth_types.specs.Invocation.{one_level, subs_format}
use Rattle.auth_record.proofs.spelled.+tree.Given as goal

abbrev pub decreases-tree_fits : goal.decreases-tree_fits
decreases-tree_fits l = 2 * l.levels + 1

abbrev pub decreases-subs_fit : goal.decreases-subs_fit
decreases-subs_fit l = 2 * l.levels

abbrev pub invariant-subs_fit-loop-item : goal.invariant-subs_fit-loop-item
invariant-subs_fit-loop-item l = AllByRecursion (one_level (subs_format (l.levels - 1))).fits (take l.item-index l.items)
