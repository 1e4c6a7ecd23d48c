-- Lists in the order of playing, and lists from an index on.
use Rattle.std.specs.Prelude.{All, reverse}
use Rattle.std.specs.List.{AllByRecursion}
use Rattle.std.specs.Option.{option_and_then}
use Rattle.std.proofs.Common.{◌≡◌, ℕ, ◌+◌, ◌<◌, Bool, true, false, List, [], ◌∷◌, ◌++◌, length, drop, get_or, map, Option, Some}
use Rattle.std.proofs.Common.{None, refl, sym, ap, subst, ◌∙◌, append_assoc, add-one, drop-cons}
use Rattle.std.proofs.lemmas.List.{reverse-append, map-append}
use Rattle.std.proofs.lemmas.List.Elements.{All-from_recursion, recursion_from_All}
use Rattle.change_log.specs.Groups as groups
use Rattle.change_log.specs.Fits.{IsGroup}
use Rattle.change_log.specs.Play.{in_order}
use Rattle.change_log.specs.Read.{Partial, Progress, with_first, read_from, step}
use Rattle.change_log.specs.Views.{group_of, groups_of}
use Rattle.change_log.specs.declared.change.LedgerEntryChange.{LedgerEntryChange}
use Rattle.change_log.specs.declared.group.Group.{Group}

-- ---- the order of playing

reverse_map : {A B : Type 0} (f : A → B) (xs : List A) → map f (reverse xs) ≡ reverse (map f xs)
reverse_map f [] = refl
reverse_map f (x ∷ xs) =
    ap (map f) (reverse-append (x ∷ []) xs)
    ∙ map-append f (reverse xs) (x ∷ [])
    ∙ ap (λ l. l ++ (f x ∷ [])) (reverse_map f xs)
    ∙ sym (reverse-append (f x ∷ []) (map f xs))

pub order_map : {A B : Type 0} (f : A → B) (back : Bool) (xs : List A) → map f (in_order back xs) ≡ in_order back (map f xs)
order_map f false xs = refl
order_map f true xs = reverse_map f xs

all_both : {A : Type 0} (P : A → Type 0) (xs ys : List A) → AllByRecursion P xs → AllByRecursion P ys
    → AllByRecursion P (xs ++ ys)
all_both P [] ys h g = g
all_both P (x ∷ xs) ys h g = (h.0, all_both P xs ys h.1 g)

all_reversed : {A : Type 0} (P : A → Type 0) (xs : List A) → AllByRecursion P xs → AllByRecursion P (reverse xs)
all_reversed P [] h = tt
all_reversed P (x ∷ xs) h =
    subst (AllByRecursion P) (sym (reverse-append (x ∷ []) xs))
    (all_both P (reverse xs) (x ∷ []) (all_reversed P xs h.1) (h.0, tt))

pub order_all : {A : Type 0} (P : A → Type 0) (back : Bool) (xs : List A) → All P xs → All P (in_order back xs)
order_all P false xs h = h
order_all P true xs h = All-from_recursion P (reverse xs) (all_reversed P xs (recursion_from_All P xs h))

-- ---- groups that are kept by reference

each_group : (gs : List Group) → AllByRecursion IsGroup (groups_of gs) → AllByRecursion (λ (g : Group). IsGroup (group_of g)) gs
each_group [] h = tt
each_group (g ∷ gs) h = (h.0, each_group gs h.1)

pub all_groups : (gs : List Group) → AllByRecursion IsGroup (groups_of gs) → All (λ (g : Group). IsGroup (group_of g)) gs
all_groups gs h = All-from_recursion (λ (g : Group). IsGroup (group_of g)) gs (each_group gs h)

-- ---- lists from an index on

pub from_index : {A : Type 0} (xs : List A) (i : ℕ) (x : A) → i < length xs → x ≡ get_or xs i x → drop i xs ≡ x ∷ drop (i + 1) xs
from_index xs i x lt is =
    let d : drop i xs ≡ get_or xs i x ∷ drop (i + 1) xs = rw (add-one, drop-cons xs i x) in
    d ∙ ap (λ y. y ∷ drop (i + 1) xs) (sym is)

with_twice : (ds es : List groups.Group) (r : Option (List groups.Group))
    → with_first ds (with_first es r) ≡ with_first (ds ++ es) r
with_twice ds es None = refl
with_twice ds es (Some gs) = ap (λ (l : List groups.Group). Some l) (sym (append_assoc ds es gs))

-- what is read with a change, and with the list after it
abbrev read_after : List LedgerEntryChange → Option Progress → Option (List groups.Group)
read_after list o = option_and_then (λ (p : Progress). with_first p.done (read_from p.partial list)) o

-- one change more of a list is read
pub read_more : (all : Option (List groups.Group)) (done : List groups.Group) (partial : Partial) (list : List LedgerEntryChange)
    (i : ℕ) (change : LedgerEntryChange) (s : Progress) → i < length list → change ≡ get_or list i change
    → all ≡ with_first done (read_from partial (drop i list)) → step partial change ≡ Some s
    → all ≡ with_first (done ++ s.done) (read_from s.partial (drop (i + 1) list))
read_more all done partial list i change s lt is e t =
    e
    ∙ ap (λ (l : List LedgerEntryChange). with_first done (read_from partial l)) (from_index list i change lt is)
    ∙ ap (λ (o : Option Progress). with_first done (read_after (drop (i + 1) list) o)) t
    ∙ with_twice done s.done (read_from s.partial (drop (i + 1) list))
