-- Byte strings that stand twice, as a prefix of a list grows, and the set of the byte strings of the prefix.
use Rattle.std.specs.declared.cmp.Ordering.{Ordering}
use Rattle.std.specs.Ordering.{nat_cmp, is_eq}
use Rattle.std.specs.Cmp.Lexicographic.{slice_cmp}
use Rattle.std.specs.BTreeSet.{BTreeSet, contains}
use Rattle.std.specs.List.{list_any}
use Rattle.std.specs.Str.{bytes_eq}
use Rattle.std.proofs.Common.{◌≡◌, ℕ, ◌+◌, ◌<◌, Bool, true, false, not, ◌||◌, cond, List, [], ◌∷◌, ◌++◌, length, get_or, take, drop, map, Bor, refl, sym, ap, ap₂, ◌∙◌}
use Rattle.std.proofs.lemmas.List.{take-append-drop, map_more, map-append}
use Rattle.std.proofs.lemmas.Map.Text.{is_eq-slice_cmp}
use Rattle.list_laws.specs.Twice.{stand_twice}

or_assoc : (a b c : Bool) → ((a || b) || c) ≡ (a || (b || c))
or_assoc true b c = refl
or_assoc false b c = refl

or_false : (a : Bool) → (a || false) ≡ a
or_false true = refl
or_false false = refl

pub any_push : (p : List ℕ → Bool) (xs : List (List ℕ)) (y : List ℕ) → list_any p (xs ++ y ∷ []) ≡ (list_any p xs || p y)
any_push p [] y = or_false (p y)
any_push p (x ∷ xs) y = ap (λ (b : Bool). p x || b) (any_push p xs y) ∙ sym (or_assoc (p x) (list_any p xs) (p y))

regroup : (a b c d : Bool) → ((a || b) || (c || d)) ≡ ((a || c) || (b || d))
regroup true b c d = refl
regroup false true true d = refl
regroup false true false d = refl
regroup false false c d = refl

pub twice_push : (xs : List (List ℕ)) (y : List ℕ) → stand_twice (xs ++ y ∷ []) ≡ (stand_twice xs || list_any (λ b. bytes_eq b y) xs)
twice_push [] y = refl
twice_push (x ∷ xs) y =
    ap₂ (λ (a b : Bool). a || b) (any_push (bytes_eq x) xs y) (twice_push xs y)
    ∙ regroup (list_any (bytes_eq x) xs) (bytes_eq x y) (stand_twice xs) (list_any (λ b. bytes_eq b y) xs)

any_more : (p : List ℕ → Bool) (xs ys : List (List ℕ)) → list_any p xs ≡ true → list_any p (xs ++ ys) ≡ true
any_more p [] ys e = cc
any_more p (x ∷ xs) ys e =
    elim (p x) as (λ b. (b || list_any p xs) ≡ true → (b || list_any p (xs ++ ys)) ≡ true) [
      | true ↦ λ h. refl
      | false ↦ λ h. any_more p xs ys h
    ] e

or_true : (a : Bool) → (a || true) ≡ true
or_true true = refl
or_true false = refl

pub twice_more : (xs ys : List (List ℕ)) → stand_twice xs ≡ true → stand_twice (xs ++ ys) ≡ true
twice_more [] ys e = cc
twice_more (x ∷ xs) ys e =
    elim (list_any (bytes_eq x) xs) as (λ b. list_any (bytes_eq x) xs ≡ b → (b || stand_twice xs) ≡ true → (list_any (bytes_eq x) (xs ++ ys) || stand_twice (xs ++ ys)) ≡ true) [
      | true ↦ λ any h. rw (any_more (bytes_eq x) xs ys any) refl
      | false ↦ λ any h. rw (twice_more xs ys h) (or_true (list_any (bytes_eq x) (xs ++ ys)))
    ] refl e

-- ---- the set of the byte strings so far

abbrev pub order : Bor (List ℕ) → Bor (List ℕ) → Ordering
order x y = slice_cmp nat_cmp x.now y.now

-- the set holds exactly the byte strings of the list
abbrev pub Holds : BTreeSet (Bor (List ℕ)) → List (List ℕ) → Type 0
Holds seen xs = (q : Bor (List ℕ)) → contains order seen q ≡ list_any (λ b. bytes_eq b q.now) xs

added_or : (a b : Bool) → cond a true b ≡ (b || a)
added_or true true = refl
added_or true false = refl
added_or false true = refl
added_or false false = refl

pub holds_more : (old new : BTreeSet (Bor (List ℕ))) (xs : List (List ℕ)) (k : Bor (List ℕ)) → Holds old xs
    → ((q : Bor (List ℕ)) → contains order new q ≡ cond (is_eq (order k q)) true (contains order old q)) → Holds new (xs ++ k.now ∷ [])
holds_more old new xs k holds updates q =
    updates q ∙ ap₂ (λ (a b : Bool). cond a true b) (is_eq-slice_cmp k.now q.now) (holds q)
    ∙ added_or (bytes_eq k.now q.now) (list_any (λ b. bytes_eq b q.now) xs)
    ∙ sym (any_push (λ b. bytes_eq b q.now) xs k.now)

not_false : (b : Bool) → not b ≡ false → b ≡ true
not_false true e = refl
not_false false e = cc

not_true : (b : Bool) → not b ≡ true → b ≡ false
not_true true e = cc
not_true false e = refl

-- ---- a loop over values, each with a byte string of its own

pub map_next : {A : Type 0} (f : A → List ℕ) (xs : List A) (i : ℕ) (x : A) → i < length xs → x ≡ get_or xs i x
    → map f (take (i + 1) xs) ≡ map f (take i xs) ++ f x ∷ []
map_next f xs i x lt is = map_more f xs i x lt ∙ ap (λ x. map f (take i xs) ++ f x ∷ []) (sym is)

-- the byte string is in the set
pub found_twice : {A : Type 0} (f : A → List ℕ) (xs : List A) (i : ℕ) (x : A) (seen : BTreeSet (Bor (List ℕ))) (k : Bor (List ℕ)) (added : Bool) → i < length xs → x ≡ get_or xs i x
    → Holds seen (map f (take i xs)) → k.now ≡ f x → added ≡ not (contains order seen k) → added ≡ false → stand_twice (map f xs) ≡ true
found_twice f xs i x seen k added lt is holds text a b =
    let there : list_any (λ b. bytes_eq b (f x)) (map f (take i xs)) ≡ true =
    ap (λ (t : List ℕ). list_any (λ b. bytes_eq b t) (map f (take i xs))) (sym text) ∙ sym (holds k) ∙ not_false (contains order seen k) (sym a ∙ b) in
    let prefix : stand_twice (map f (take (i + 1) xs)) ≡ true =
    ap stand_twice (map_next f xs i x lt is) ∙ twice_push (map f (take i xs)) (f x) ∙ ap (λ (c : Bool). stand_twice (map f (take i xs)) || c) there ∙ or_true (stand_twice (map f (take i xs))) in
    let parts : map f (take (i + 1) xs) ++ map f (drop (i + 1) xs) ≡ map f xs =
    sym (map-append f (take (i + 1) xs) (drop (i + 1) xs)) ∙ ap (map f) (take-append-drop (i + 1) xs) in
    ap stand_twice (sym parts) ∙ twice_more (map f (take (i + 1) xs)) (map f (drop (i + 1) xs)) prefix

-- the byte string is new
pub none_twice : {A : Type 0} (f : A → List ℕ) (xs : List A) (i : ℕ) (x : A) (seen : BTreeSet (Bor (List ℕ))) (k : Bor (List ℕ)) (added : Bool) → i < length xs → x ≡ get_or xs i x
    → Holds seen (map f (take i xs)) → stand_twice (map f (take i xs)) ≡ false → k.now ≡ f x → added ≡ not (contains order seen k) → added ≡ true
    → stand_twice (map f (take (i + 1) xs)) ≡ false
none_twice f xs i x seen k added lt is holds distinct text a b =
    let absent : list_any (λ b. bytes_eq b (f x)) (map f (take i xs)) ≡ false =
    ap (λ (t : List ℕ). list_any (λ b. bytes_eq b t) (map f (take i xs))) (sym text) ∙ sym (holds k) ∙ not_true (contains order seen k) (sym a ∙ b) in
    ap stand_twice (map_next f xs i x lt is) ∙ twice_push (map f (take i xs)) (f x) ∙ ap₂ (λ (c d : Bool). c || d) distinct absent

-- the set after one byte string more
pub still_holds : {A : Type 0} (f : A → List ℕ) (xs : List A) (i : ℕ) (x : A) (old new : BTreeSet (Bor (List ℕ))) (k : Bor (List ℕ)) → i < length xs → x ≡ get_or xs i x
    → Holds old (map f (take i xs)) → k.now ≡ f x → ((q : Bor (List ℕ)) → contains order new q ≡ cond (is_eq (order k q)) true (contains order old q))
    → Holds new (map f (take (i + 1) xs))
still_holds f xs i x old new k lt is holds text updates =
    let more : map f (take (i + 1) xs) ≡ map f (take i xs) ++ k.now ∷ [] = map_next f xs i x lt is ∙ ap (λ (t : List ℕ). map f (take i xs) ++ t ∷ []) (sym text) in
    λ q. holds_more old new (map f (take i xs)) k holds updates q ∙ ap (λ (ys : List (List ℕ)). list_any (λ b. bytes_eq b q.now) ys) (sym more)
