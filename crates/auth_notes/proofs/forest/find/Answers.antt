use Rattle.std.proofs.Common.{◌≡◌, ◌+◌, ℕ, List, [], ◌∷◌, ◌++◌, get_or, take, sym, ap, ◌∙◌, subst, append_assoc}
use Rattle.std.proofs.lemmas.List.{append-nil, take_more}
use Rattle.value_types.specs.declared.address.ScAddress.TheVariants.{Account}
use Rattle.auth_notes.specs.declared.noted.Noted.{Noted}
use Rattle.auth_notes.specs.Recording.{notes_of, pair_at, best}
use Rattle.auth_notes.specs.Indices.{number_at, account_key, joined}
use Rattle.auth_notes.proofs.Prefixes.{best_above_nothing, found_more}
use Rattle.auth_notes.proofs.forest.find.Goals as goal

pub loop-number-init : goal.loop-number-init
loop-number-init c = record {
  so_far = sym (best_above_nothing c.args.account (notes_of c.args.forest.now.notes.items));
  key_is = c.in_ok-key.ensures ∙ sym (append-nil (account_key c.args.account));
}

pub loop-number-preserved : goal.loop-number-preserved
loop-number-preserved c =
    let notes = c.args.forest.now.notes.items in
    let entries = c.args.forest.now.best.entries in
    let path = c.args.path.now in
    let so_far = take c.loop-number.number-index path in
    let number = get_or path c.loop-number.number-index 0 in
    let more : take (c.loop-number.number-index + 1) path ≡ so_far ++ number ∷ [] = take_more path c.loop-number.number-index 0 c.loop-number-test.true in
    let assoc : (account_key c.args.account ++ so_far) ++ number ∷ [] ≡ account_key c.args.account ++ (so_far ++ number ∷ []) = simp append_assoc in
    let lent : c.as_slice.result.now ≡ notes = c.as_slice.ensures.value in
    let key = c.loop-number.key in
    let index : c.number_at.result ≡ number_at entries key.items = c.number_at.ensures ∙ ap (number_at entries) c.as_slice-in-loop-number.ensures.value in
    let step : pair_at notes c.joined-found.result ≡ joined (pair_at notes c.loop-number.found) (pair_at notes (number_at entries key.items)) =
    subst (λ (ns : List Noted). pair_at ns c.joined-found.result ≡ joined (pair_at ns c.loop-number.found) (pair_at ns (number_at entries key.items))) lent
    (c.joined-found.ensures ∙ ap (λ o. joined (pair_at c.as_slice.result.now c.loop-number.found) (pair_at c.as_slice.result.now o)) index) in
    record {
      so_far = found_more notes entries key so_far number c.args.account c.loop-number.found c.joined-found.result c.loop-number.invariant.key_is c.requires.indexed c.loop-number.invariant.so_far step
          ∙ ap (λ (xs : List ℕ). best (notes_of notes) xs (Account c.args.account)) (sym more);
      key_is = c.in_ok-push.ensures.items ∙ ap (λ (xs : List ℕ). xs ++ number ∷ []) c.loop-number.invariant.key_is ∙ assoc
          ∙ ap (λ (xs : List ℕ). account_key c.args.account ++ xs) (sym more);
    }
