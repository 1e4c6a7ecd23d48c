use Rattle.std.proofs.Common.{◌≡◌, ◌-◌, ◌∙◌, ap, subst, arith}
use Rattle.std.specs.Prelude.{IfOk}
use Rattle.auth_types.specs.Tree.{Tree}
use Rattle.auth_types.specs.Views.{tree_of as tree_in, forest_of}
use Rattle.auth_notes.specs.Recording.{note_of}
use Rattle.auth_notes.specs.Indices.{place_key}
use Rattle.auth_record.specs.Children.{list_at}
use Rattle.auth_record.proofs.Children.{no_child, one_child, tree_is}
use Rattle.auth_record.proofs.Growing.{forest_push}
use Rattle.auth_record.proofs.trees.+tree_of.Goals as goal
use Rattle.auth_record.proofs.trees.+tree_of.Goals.{in-Some+in_ok-tree+in_ok-push, in_default}

pub loop-index-preserved : goal.loop-index-preserved
loop-index-preserved t c =
    let old = c.loop-index.trees.items in
    elim c.match-get.branch [
      | in-Some+in_ok-tree+in_ok-push w ↦ rw w.trees-is (
          ap forest_of w.in_ok-push.ensures.items ∙ forest_push old w.in_ok-tree.tree
          ∙ one_child (c.args.levels - 1) c.args.notes.now c.list_at-index-items.result.now c.loop-index.index-index c.loop-index-test.true (forest_of old) c.loop-index.invariant
          w.in-Some.note.now (tree_in w.in_ok-tree.tree) w.in-Some.ensures.lookup.3.0 w.in-Some.ensures.lookup.1 w.in_ok-tree.ensures)
      | in_default w ↦ rw w.trees-is (
          no_child (c.args.levels - 1) c.args.notes.now c.list_at-index-items.result.now c.loop-index.index-index c.loop-index-test.true (forest_of old) c.loop-index.invariant
          w.in_default.ensures.lookup.3)
    ]

pub returns : goal.returns
returns t c =
    let entries = c.args.children.now.entries in
    subst (λ (x : Tree). IfOk c.with_children.result (λ i. tree_in i ≡ x))
    (tree_is c.args.levels c.args.notes.now (note_of c.args.node.now) entries c.in_ok-key.key c.list_at-index-items.result.now c.loop-index.index-index (forest_of c.loop-index.trees.items)
    c.requires (c.in_ok-key.ensures ∙ ap (place_key c.args.node.now.tree) c.as_slice.ensures.value) (c.list_at-index-items.ensures ∙ ap (list_at entries) c.as_slice-2.ensures.value)
    c.if-levels-eq0.false (omega arith) c.loop-index.invariant) c.with_children.ensures
