use Rattle.std.proofs.Common.{◌≡◌, ◌∷◌, [], ◌++◌, ℕ, List, count_by, ap, ap₂, ◌∙◌}
use Rattle.auth_spec.specs.Noted.{Note, is_child}
use Rattle.auth_notes.specs.Recording.{pair_of, notes_of}
use Rattle.auth_notes.specs.Indices.{count_at, place_key, children_at}
use Rattle.auth_notes.proofs.Counting.{children_are}
use Rattle.auth_notes.proofs.forest.last_child.Goals as goal

pub returns : goal.returns
returns c =
    let notes = notes_of c.args.forest.now.notes.items in
    let parent = c.args.parent.now in
    let key : c.in_ok-key.key.items ≡ place_key parent.tree parent.place.items = c.in_ok-key.ensures ∙ ap (place_key parent.tree) c.as_slice.ensures.value in
    let count : c.count_at-count.result ≡ count_by (λ (n : Note). is_child (pair_of parent) n.pair) notes =
    c.count_at-count.ensures ∙ ap (count_at c.args.forest.now.children.entries) c.as_slice-2.ensures.value ∙ c.requires.counted c.in_ok-key.key
    ∙ ap (children_at notes) key ∙ children_are notes (pair_of parent) in
    ap (λ (node : List ℕ). (parent.tree, node))
    (c.in_ok-push.ensures.items ∙ ap₂ (λ (xs : List ℕ) (k : ℕ). xs ++ k ∷ []) (c.in_ok-node.ensures.items ∙ c.as_slice-3.ensures.value) count)
