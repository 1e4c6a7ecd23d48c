use Rattle.std.proofs.Common.{◌≡◌, ℕ, List, None, Some, IfOk, sym, ap, ◌∙◌, subst}
use Rattle.value_types.specs.declared.address.ScAddress.TheVariants.{Account}
use Rattle.auth_notes.specs.declared.noted.Noted.{Noted}
use Rattle.auth_notes.specs.Recording.{notes_of, pair_of, pair_at, best, place_of}
use Rattle.auth_notes.proofs.Finding.{place_none, place_some}
use Rattle.auth_notes.proofs.forest.new_place.Goals as goal

pub returns-in-None : goal.returns-in-None
returns-in-None c =
    let notes = c.args.forest.now.notes.items in
    let none : best (notes_of notes) c.args.path.now (Account c.args.account) ≡ None =
    sym c.in_ok-found.ensures ∙ ap (λ (ns : List Noted). pair_at ns c.in_ok-found.found) (sym c.as_slice.ensures.value) ∙ sym c.in-None.ensures in
    ap (λ (node : List ℕ). (c.args.forest.now.trees, node)) c.new.ensures.items
    ∙ place_none (notes_of notes) c.args.forest.now.trees c.args.path.now (Account c.args.account) c.requires.made none

pub returns-in-Some : goal.returns-in-Some
returns-in-Some c =
    let notes = c.args.forest.now.notes.items in
    let some : best (notes_of notes) c.args.path.now (Account c.args.account) ≡ Some (pair_of c.in-Some.parent.now) =
    sym c.in_ok-found.ensures ∙ ap (λ (ns : List Noted). pair_at ns c.in_ok-found.found) (sym c.as_slice.ensures.value) ∙ sym c.in-Some.ensures in
    subst (λ (place : ℕ × List ℕ). IfOk c.last_child.result (λ p. place_of p ≡ place))
    (place_some (notes_of notes) c.args.forest.now.trees c.args.path.now (Account c.args.account) (pair_of c.in-Some.parent.now) c.requires.made some) c.last_child.ensures
