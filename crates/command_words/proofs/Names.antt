-- Names of files among the words.
use Rattle.std.proofs.Common.{◌≡◌, ℕ, ◌+◌, ◌-◌, ◌<◌, List, [], ◌∷◌, length, length-drop, arith, map, take, drop, get_or, add-one, drop-cons, Bool, true, false, ◌&&◌, ◌||◌, not, refl, sym, ◌∙◌, ap}
use Rattle.std.proofs.lemmas.List.{take_all}
use Rattle.std.specs.Prelude.{nat_eq}
use Rattle.std.specs.List.{list_any}
use Rattle.std.specs.Str.{bytes_eq}
use Rattle.clap.specs.Walk.{Text}
use Rattle.command_words.specs.Values.{are_names}

list_any-map : {A : Type 0} (now : A → Text) (test : Text → Bool) (xs : List A) → list_any test (map now xs) ≡ list_any (λ x. test (now x)) xs
list_any-map now test [] = refl
list_any-map now test (x ∷ xs) = ap (λ b. test (now x) || b) (list_any-map now test xs)

-- the names with one more in front
pub more_names : {A : Type 0} (now : A → Text) (names : List A) (n : Text) → are_names (n ∷ map now names) ≡ not (nat_eq (length n) 0) && not (list_any (λ o. bytes_eq n (now o)) names) && are_names (map now names)
more_names now names n = ap (λ b. not (nat_eq (length n) 0) && not b && are_names (map now names)) (list_any-map now (bytes_eq n) names)

-- what stands from a place on, as the code says it
take_rest : {A : Type 0} (xs : List A) (k : ℕ) → take (length xs - k) (drop k xs) ≡ drop k xs
take_rest xs k = take_all (length xs - k) (drop k xs) (omega (arith, length-drop k xs))

drop_at_item : {A : Type 0} (xs : List A) (i : ℕ) (x : A) → i < length xs → x ≡ get_or xs i x → drop i xs ≡ x ∷ drop (i + 1) xs
drop_at_item xs i x lt is = rw (add-one, is) (drop-cons xs i x lt)

-- the name at a place is not empty, and none behind it is the same
names_at : {A : Type 0} (now : A → Text) (names : List A) (i : ℕ) (n : A) → i < length names → n ≡ get_or names i n → are_names (map now (drop i names)) ≡ not (nat_eq (length (now n)) 0) && not (list_any (λ o. bytes_eq (now n) (now o)) (drop (i + 1) names)) && are_names (map now (drop (i + 1) names))
names_at now names i n lt is =
    ap (λ l. are_names (map now l)) (drop_at_item names i n lt is) ∙ ap (λ b. not (nat_eq (length (now n)) 0) && not b && are_names (map now (drop (i + 1) names))) (list_any-map now (bytes_eq (now n)) (drop (i + 1) names))

second : (e h r : Bool) → h ≡ true → not e && not h && r ≡ false
second true h r is = refl
second false h r is = rw is refl

pub names_empty : {A : Type 0} (now : A → Text) (names : List A) (i : ℕ) (n : A) → i < length names → n ≡ get_or names i n → are_names (map now names) ≡ are_names (map now (drop i names)) → nat_eq (length (now n)) 0 ≡ true → false ≡ are_names (map now names)
names_empty now names i n lt is so_far empty = sym (so_far ∙ names_at now names i n lt is ∙ rw empty refl)

pub names_again : {A : Type 0} (now : A → Text) (names : List A) (i : ℕ) (n : A) → i < length names → n ≡ get_or names i n → are_names (map now names) ≡ are_names (map now (drop i names)) → list_any (λ o. bytes_eq (now n) (now o)) (take (length names - (i + 1)) (drop (i + 1) names)) ≡ true → false ≡ are_names (map now names)
names_again now names i n lt is so_far again = sym (so_far ∙ names_at now names i n lt is ∙ second _ _ _ (rw take_rest at again))

pub names_next : {A : Type 0} (now : A → Text) (names : List A) (i : ℕ) (n : A) → i < length names → n ≡ get_or names i n → are_names (map now names) ≡ are_names (map now (drop i names)) → nat_eq (length (now n)) 0 ≡ false → list_any (λ o. bytes_eq (now n) (now o)) (take (length names - (i + 1)) (drop (i + 1) names)) ≡ false
    → are_names (map now names) ≡ are_names (map now (drop (i + 1) names))
names_next now names i n lt is so_far some alone = let none = rw take_rest at alone in so_far ∙ names_at now names i n lt is ∙ rw (some, none) refl
