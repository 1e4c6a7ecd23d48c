-- Vecs and maps are the same if their members are.
use Rattle.std.proofs.Common.{◌≡◌, Bool, true, List, [], ◌∷◌, Option, Some, Result, Ok, Err, refl, sym, ap, ap₂, ◌∙◌}
use Rattle.std.specs.Prelude.{map, IfOk}
use Rattle.std.proofs.lemmas.Option.{same_Some}
use Rattle.std.specs.Bool.{Decides}
use Rattle.value_types.specs.Datum.{Datum}
use Rattle.value_types.specs.Views.{scval, datum, datums, datum_pairs}
use Rattle.value_types.proofs.Lemmas.{scval-datum}
use Rattle.value_types.specs.declared.value.Entry.{Entry}
use Rattle.value_types.specs.declared.value.ScVal.{ScVal}

values_back : (xs : List ScVal) → map scval (datums xs) ≡ xs
values_back [] = refl
values_back (x ∷ xs) = ap₂ (λ (y : ScVal) (ys : List ScVal). y ∷ ys) (scval-datum x) (values_back xs)

entry_of : Datum × Datum → Entry
entry_of p = record { key = scval p.0; val = scval p.1 }

entry_back : (e : Entry) → record { key = scval (datum e.key); val = scval (datum e.val) } ≡ e
entry_back e = ap₂ (λ (k v : ScVal). record { key = k; val = v }) (scval-datum e.key) (scval-datum e.val)

entries_back : (es : List Entry) → map entry_of (datum_pairs es) ≡ es
unfolding entry_of
entries_back [] = refl
entries_back (e ∷ es) = ap₂ (λ (y : Entry) (ys : List Entry). y ∷ ys) (entry_back e) (entries_back es)

-- what holds of an answer
answered : {E : Type 0} (P Q : Bool → Type 0) (r : Result Bool E) → ((b : Bool) → P b → Q b) → IfOk r P → IfOk r Q
answered P Q (Ok b) f h = f b h
answered P Q (Err e) f h = tt

pub vecs : {E : Type 0} (xs ys : List ScVal) (x y : List Datum) (v w : Option (List Datum)) (r : Result Bool E) → v ≡ Some x → w ≡ Some y
    → datums xs ≡ x → datums ys ≡ y → IfOk r (λ b. Decides b (xs ≡ ys)) → IfOk r (λ b. Decides b (v ≡ w))
vecs xs ys x y v w r f g h k =
    answered (λ b. Decides b (xs ≡ ys)) (λ b. Decides b (v ≡ w)) r
    (λ b d. (
      λ (t : b ≡ true). f ∙ ap (λ (ds : List Datum). Some ds) (sym h ∙ ap datums (d.0 t) ∙ k) ∙ sym g,
      λ (e : v ≡ w). d.1 (sym (values_back xs) ∙ ap (map scval) (h ∙ same_Some x y (sym f ∙ e ∙ g) ∙ sym k) ∙ values_back ys),
    ))

pub maps : {E : Type 0} (xs ys : List Entry) (x y : List (Datum × Datum)) (v w : Option (List (Datum × Datum))) (r : Result Bool E) → v ≡ Some x → w ≡ Some y
    → datum_pairs xs ≡ x → datum_pairs ys ≡ y → IfOk r (λ b. Decides b (xs ≡ ys)) → IfOk r (λ b. Decides b (v ≡ w))
maps xs ys x y v w r f g h k =
    answered (λ b. Decides b (xs ≡ ys)) (λ b. Decides b (v ≡ w)) r
    (λ b d. (
      λ (t : b ≡ true). f ∙ ap (λ (ds : List (Datum × Datum)). Some ds) (sym h ∙ ap datum_pairs (d.0 t) ∙ k) ∙ sym g,
      λ (e : v ≡ w). d.1 (sym (entries_back xs) ∙ ap (map entry_of) (h ∙ same_Some x y (sym f ∙ e ∙ g) ∙ sym k) ∙ entries_back ys),
    ))

pub vecs_apart : (xs ys : List ScVal) (x y : List Datum) (v w : Option (List Datum)) → v ≡ Some x → w ≡ Some y → datums xs ≡ x → datums ys ≡ y
    → (xs ≡ ys → ⊥) → v ≡ w → ⊥
vecs_apart xs ys x y v w f g h k apart e = apart (sym (values_back xs) ∙ ap (map scval) (h ∙ same_Some x y (sym f ∙ e ∙ g) ∙ sym k) ∙ values_back ys)

pub maps_apart : (xs ys : List Entry) (x y : List (Datum × Datum)) (v w : Option (List (Datum × Datum))) → v ≡ Some x → w ≡ Some y → datum_pairs xs ≡ x
    → datum_pairs ys ≡ y → (xs ≡ ys → ⊥) → v ≡ w → ⊥
maps_apart xs ys x y v w f g h k apart e = apart (sym (entries_back xs) ∙ ap (map entry_of) (h ∙ same_Some x y (sym f ∙ e ∙ g) ∙ sym k) ∙ entries_back ys)
