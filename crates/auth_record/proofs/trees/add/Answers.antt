use Rattle.std.proofs.Common.{◌≡◌, List, [], ◌∷◌, ◌++◌, sym, ap, ◌∙◌}
use Rattle.std.specs.Prelude.{ℕ}
use Rattle.auth_record.specs.Children.{items_of}
use Rattle.auth_record.proofs.Children.{added_is}
use Rattle.auth_record.proofs.trees.add.Goals as goal
use Rattle.auth_record.proofs.trees.add.Goals.{in-None, in-Some}

pub returns : goal.returns
returns c =
    let list : c.match-remove.list.items ≡ items_of c.remove.result = elim c.match-remove.branch [
      | in-None w ↦ rw w.list-is (w.new-list.ensures.items ∙ sym (ap items_of w.in-None.is))
      | in-Some w ↦ rw w.list-is (sym (ap items_of w.in-Some.is))
    ] in
    added_is c.args.children.now.entries c.remove.new.self.entries c.insert.new.self.entries c.args.key c.push.new.self c.remove.result c.args.index
    (rw c.as_slice.ensures.value at c.remove.ensures.value) (rw c.as_slice.ensures.value at c.remove.ensures.updates.0) c.in_ok-_none.ensures.updates.0
    (c.in_ok-push.ensures.items ∙ ap (λ (xs : List ℕ). xs ++ c.args.index ∷ []) list)
