use Rattle.std.proofs.Common.{◌≡◌, ℕ, List, [], ◌∷◌, ◌++◌, sym, ap, ◌∙◌, subst, arith}
use Rattle.std.proofs.lemmas.List.{map_push}
use Rattle.auth_notes.specs.declared.noted.Noted.{Noted}
use Rattle.auth_spec.specs.Noted.{Note}
use Rattle.auth_notes.specs.Recording.{note_of, notes_of, AreTrees}
use Rattle.auth_notes.specs.Indices.{AreBest, AreCounts}
use Rattle.auth_notes.proofs.Finding.{few_trees}
use Rattle.auth_notes.proofs.Counting.{counts_same, counts_more, few_counted}
use Rattle.auth_notes.proofs.forest.grow_by.Goals as goal

pub count_up-requires-clause-few : goal.count_up-requires-clause-few
count_up-requires-clause-few c =
    let f = c.args.forest.now in
    few_counted f.notes.items c.begin_count.new.children.entries f.notes.cap
    (counts_same (notes_of f.notes.items) f.children.entries c.begin_count.new.children.entries c.begin_count.ensures.same c.requires.ready.counted)
    (omega (arith, f.notes.ok)) f.notes.small c.args.row

pub trees_with-forest-requires : goal.trees_with-forest-requires
trees_with-forest-requires c =
    let f = c.args.forest.now in
    few_trees f.notes.items f.trees f.notes.cap c.requires.ready.made (omega (arith, f.notes.ok)) f.notes.small

pub returns-clause-ready : goal.returns-clause-ready
returns-clause-ready c =
    let f = c.args.forest.now in
    let old = f.notes.items in
    let note = c.args.note in
    let items : c.push_note.new.notes.items ≡ old ++ note ∷ [] = c.push_note.ensures ∙ ap (λ (ns : List Noted). ns ++ note ∷ []) c.reserve.ensures.items in
    let notes : notes_of c.push_note.new.notes.items ≡ notes_of old ++ note_of note ∷ [] = ap notes_of items ∙ map_push note_of old note in
    let lent : c.as_slice-2.result.now ≡ old = c.as_slice-2.ensures.value ∙ c.reserve.ensures.items in
    record {
      made = subst (λ (ns : List Note). AreTrees ns c.trees_with-forest.result) (sym notes) (subst (λ (n : ℕ). AreTrees (notes_of old ++ note_of note ∷ []) n) (sym c.trees_with-forest.ensures) c.requires.trees);
      indexed = subst (λ (ns : List Noted). AreBest ns c.put_best.new.best.entries) (ap (λ (ns : List Noted). ns ++ note ∷ []) lent ∙ sym items)
          (c.put_best.ensures.put c.if-not-put_best.false);
      counted = subst (λ (ns : List Note). AreCounts ns c.count_up.new.children.entries) (sym notes)
          (counts_more (notes_of old) (note_of note) c.begin_count.new.children.entries c.count_up.new.children.entries c.args.row.items c.requires.row c.count_up.ensures
          (counts_same (notes_of old) f.children.entries c.begin_count.new.children.entries c.begin_count.ensures.same c.requires.ready.counted));
    }
