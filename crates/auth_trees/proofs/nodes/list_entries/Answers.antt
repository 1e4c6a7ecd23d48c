use Rattle.std.proofs.Common.{[], map, ap, ◌∙◌}
use Rattle.auth_types.specs.Views.{tree_of}
use Rattle.auth_trees.specs.Listed.{kept}
use Rattle.auth_trees.proofs.Listing.{more, none_yet}
use Rattle.auth_trees.proofs.nodes.list_entries.Goals as goal

pub loop-entry-init : goal.loop-entry-init
loop-entry-init c = ap (map kept) c.new-nodes.ensures.items ∙ none_yet []

pub loop-entry-preserved : goal.loop-entry-preserved
loop-entry-preserved c =
    more (λ entry. tree_of entry.root_invocation) [] (map kept c.loop-entry.nodes.items) (map kept c.list_tree.new.nodes.items) c.args.entries.now c.loop-entry.entry-index c.entry-item.result
    c.loop-entry-test.true c.entry-item.is c.loop-entry.invariant c.in_ok-list_tree.ensures
