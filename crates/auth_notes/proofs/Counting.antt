-- The numbers of children, by keys.
use Rattle.std.proofs.Common.{◌≡◌, ℕ, suc, ◌+◌, ◌<◌, ◌≤◌, ◌^◌, Bool, true, false, cond, ◌&&◌, eqb, List, [], ◌∷◌, ◌++◌, length, take, Option, Some, None, is_some, count_by, refl, sym, ap, ap₂, ◌∙◌, arith}
use Rattle.std.specs.Option.{unwrap_or}
use Rattle.std.specs.List.{starts_with}
use Rattle.std.specs.Global.{Vec}
use Rattle.std.proofs.lemmas.Bool.Decides.{Decides-eqb, Decides-and, Decides-like, same_from_decides}
use Rattle.std.proofs.lemmas.Slice.Eq.{bytes_eq-Decides}
use Rattle.std.proofs.lemmas.List.{length-take-le, length-map}
use Rattle.std.proofs.lemmas.List.Sums.{sum_by-append, count_by-le-length}
use Rattle.auth_spec.specs.Pairs.{Pair}
use Rattle.auth_spec.specs.Noted.{Note, is_child}
use Rattle.auth_notes.specs.declared.noted.Noted.{Noted}
use Rattle.auth_notes.specs.Recording.{note_of, notes_of}
use Rattle.auth_notes.specs.Indices.{same_key, number_at, HasPut, count_at, HaveSame, HasOneMore, place_key, row_of, children_at, AreCounts}
use Rattle.auth_notes.proofs.Spelling.{key_is}

-- ---- children and their keys

-- a node is a child of a place
abbrev IsBelow : ℕ → ℕ → List ℕ → List ℕ → Type 0
IsBelow t e place node = ((e ≡ t) × (place ≡ take (length place) node)) × (length node ≡ length place + 1)

row_parts : (t e : ℕ) (place node : List ℕ) → take (length node) (e ∷ node) ≡ t ∷ place → IsBelow t e place node
row_parts t e place [] h = absurd cc
row_parts t e place (x ∷ xs) h =
    let head : e ≡ t = cc in
    let rest : place ≡ take (length xs) (x ∷ xs) = cc in
    let few : length xs ≤ length (x ∷ xs) = omega arith in
    let long : length place ≡ length xs = ap length rest ∙ length-take-le (length xs) (x ∷ xs) few in
    ((head, rest ∙ ap (λ (k : ℕ). take k (x ∷ xs)) (sym long)), omega (arith, long))

row_from : (t e : ℕ) (place node : List ℕ) → IsBelow t e place node → take (length node) (e ∷ node) ≡ t ∷ place
row_from t e place node h =
    let more : length node ≡ suc (length place) = omega (arith, h.1) in
    ap (λ (k : ℕ). take k (e ∷ node)) more ∙ sym (ap₂ (λ (x : ℕ) (xs : List ℕ). x ∷ xs) (sym h.0.0) h.0.1)

child_is : (parent p : Pair) → same_key (row_of p) (place_key parent.entry parent.node) ≡ is_child parent p
child_is parent p =
    let entry = eqb p.entry parent.entry in
    let starts = starts_with eqb p.node parent.node in
    let one = eqb (length p.node) (length parent.node + 1) in
    let key = same_key (row_of p) (place_key parent.entry parent.node) in
    same_from_decides key (is_child parent p)
    (Decides-like key (row_parts parent.entry p.entry parent.node p.node) (row_from parent.entry p.entry parent.node p.node) (key_is (row_of p) (place_key parent.entry parent.node)))
    (Decides-and (entry && starts) one
    (Decides-and entry starts (Decides-eqb p.entry parent.entry) (bytes_eq-Decides parent.node (take (length parent.node) p.node)))
    (Decides-eqb (length p.node) (length parent.node + 1)))

-- the nodes that are counted at the key of a place are its children
pub child_test : (parent : Pair) → ◌≡◌ {A = Note → Bool} (λ n. same_key (row_of n.pair) (place_key parent.entry parent.node)) (λ n. is_child parent n.pair)
child_test parent = λ i n. child_is parent n.pair i

pub children_are : (notes : List Note) (parent : Pair) → children_at notes (place_key parent.entry parent.node) ≡ count_by (λ (n : Note). is_child parent n.pair) notes
children_are notes parent = ap (λ (test : Note → Bool). count_by test notes) (child_test parent)

-- ---- one node more

one_counted : (b : Bool) → 0 + cond b 1 0 ≡ cond b 1 0
one_counted true = refl
one_counted false = refl

pub counts_same : (notes : List Note) (old new : List (Vec ℕ × ℕ)) → HaveSame old new → AreCounts notes old → AreCounts notes new
counts_same notes old new same h q = same q ∙ h q

pub counts_more : (notes : List Note) (n : Note) (old new : List (Vec ℕ × ℕ)) (key : List ℕ) → key ≡ row_of n.pair → HasOneMore old key new → AreCounts notes old → AreCounts (notes ++ n ∷ []) new
counts_more notes n old new key is more h q =
    more q
    ∙ ap₂ (λ (x : ℕ) (k : List ℕ). x + cond (same_key k q.items) 1 0) (h q) is
    ∙ sym (sum_by-append (λ (m : Note). cond (same_key (row_of m.pair) q.items) 1 0) notes (n ∷ [])
    ∙ ap (λ (x : ℕ). children_at notes q.items + x) (one_counted (same_key (row_of n.pair) q.items)))

-- a number of children is not large
pub few_counted : (ns : List Noted) (children : List (Vec ℕ × ℕ)) (most : ℕ) → AreCounts (notes_of ns) children → length ns ≤ most → most < 2 ^ 63 → (q : Vec ℕ) → count_at children q.items < 2 ^ 63
few_counted ns children most h long few q =
    let same : length (notes_of ns) ≡ length ns = length-map ns note_of in
    omega (arith, h q, count_by-le-length (λ (m : Note). same_key (row_of m.pair) q.items) (notes_of ns), same, long, few)

-- ---- the numbers that are put

pub put_has : (old new : List (Vec ℕ × ℕ)) (key : Vec ℕ) (number : ℕ) → HasPut old key.items number new → is_some (number_at new key.items) ≡ true
put_has old new key number put =
    ap is_some (put key ∙ ap (λ (b : Bool). cond b (Some number) (number_at old key.items)) ((key_is key.items key.items).1 refl))

begun_at : (b : Bool) (o : Option ℕ) → (b ≡ true → o ≡ None) → unwrap_or (cond b (Some 0) o) 0 ≡ unwrap_or o 0
begun_at true o h = sym (ap (λ (x : Option ℕ). unwrap_or x 0) (h refl))
begun_at false o h = refl

-- a key without a number begins with 0
pub begun_same : (old new : List (Vec ℕ × ℕ)) (key : List ℕ) (b : Bool) → number_at old key ≡ None → (b ≡ true → HasPut old key 0 new) → (b ≡ false → new ≡ old) → HaveSame old new
begun_same old new key true none put refused q =
    ap (λ (x : Option ℕ). unwrap_or x 0) (put refl q)
    ∙ begun_at (same_key key q.items) (number_at old q.items) (λ e. sym (ap (number_at old) ((key_is key q.items).0 e)) ∙ none)
begun_same old new key false none put refused q = ap (λ (es : List (Vec ℕ × ℕ)). count_at es q.items) (refused refl)

counted_at : (b : Bool) (o : Option ℕ) (count : ℕ) → (b ≡ true → count ≡ unwrap_or o 0) → unwrap_or (cond b (Some (count + 1)) o) 0 ≡ unwrap_or o 0 + cond b 1 0
counted_at true o count h = ap (λ (n : ℕ). n + 1) (h refl)
counted_at false o count h = omega arith

-- a key with a number gets the next one
pub counted_more : (old new : List (Vec ℕ × ℕ)) (key : List ℕ) (count : ℕ) (b : Bool) → is_some (number_at old key) ≡ true → count ≡ count_at old key
    → (b ≡ true → HasPut old key (count + 1) new) → (b ≡ false → number_at old key ≡ None) → HasOneMore old key new
counted_more old new key count true some is put missing q =
    ap (λ (x : Option ℕ). unwrap_or x 0) (put refl q)
    ∙ counted_at (same_key key q.items) (number_at old q.items) count (λ e. is ∙ ap (count_at old) ((key_is key q.items).0 e))
counted_more old new key count false some is put missing q = absurd (let no : false ≡ true = sym (ap is_some (missing refl)) ∙ some in cc)
