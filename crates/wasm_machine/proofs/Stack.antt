-- A stack of values as a list from the top down, and as a vector from the bottom up.
use Rattle.std.proofs.Common.{◌≡◌, ℕ, zero, suc, ◌+◌, ◌-◌, ◌<◌, ◌≤◌, List, [], ◌∷◌, ◌++◌, length, take, drop, get_or, map, Option, Some, None, refl, sym, ap, ◌∙◌, arith, append_assoc, length-append}
use Rattle.std.specs.Prelude.{slice_get, slice_set, reverse, IsSome}
use Rattle.std.proofs.Math.Seq.{take-append_seam, take-suc-set, set-append_seam}
use Rattle.std.proofs.lemmas.List.{length-reverse, reverse-reverse, reverse-append, get_or-reverse, drop_at}
use Rattle.wasm_spec.specs.declared.types.ValueType.{ValueType}
use Rattle.wasm_spec.specs.declared.types.ValueType.TheVariants.{I32, I64}
use Rattle.wasm_spec.specs.declared.values.Value.{Value}
use Rattle.wasm_spec.specs.declared.values.Value.TheVariants as value
use Rattle.wasm_spec.specs.Meaning.{arguments}
use Rattle.wasm_machine.specs.Machine.{removed, keeping, cut}
use Rattle.wasm_machine.specs.Numbers.{HasTop}

-- what is taken away, and what is left
split_removed : (n : ℕ) (l w : List Value) → removed n l ≡ Some w → (a : List Value) × (l ≡ a ++ w) × (length a ≡ n)
split_removed zero l w e = let f : l ≡ w = cc in ([], f, refl)
split_removed (suc n) [] w e = cc
split_removed (suc n) (v ∷ l) w e = let r = split_removed n l w e in (v ∷ r.0, ap (λ x. v ∷ x) r.1, omega (arith, r.2))

-- the vector of a ++ w
vector_of : (xs a w : List Value) → reverse xs ≡ a ++ w → xs ≡ reverse w ++ reverse a
vector_of xs a w e = sym (reverse-reverse xs) ∙ ap reverse e ∙ reverse-append a w

length_of : (xs a w : List Value) → reverse xs ≡ a ++ w → length xs ≡ length a + length w
length_of xs a w e = sym (length-reverse xs) ∙ ap length e ∙ length-append a w

prefix_of : (xs a w : List Value) (i : ℕ) → reverse xs ≡ a ++ w → i ≡ length xs - length a → take i xs ≡ reverse w
prefix_of xs a w i e k =
    let n : i ≡ length (reverse w) = omega (arith, length_of xs a w e, length-reverse w) in
    ap (take i) (vector_of xs a w e) ∙ ap (λ m. take m (reverse w ++ reverse a)) n ∙ take-append_seam (reverse w) (reverse a)

pub removed_view : (xs : List Value) (n i : ℕ) → i ≡ length xs - n → IsSome (removed n (reverse xs)) → removed n (reverse xs) ≡ Some (reverse (take i xs))
removed_view xs n i k some = go (removed n (reverse xs)) refl some
  where
    go : (o : Option (List Value)) → removed n (reverse xs) ≡ o → IsSome o → removed n (reverse xs) ≡ Some (reverse (take i xs))
    go None e h = cc
    go (Some w) e h =
        let s = split_removed n (reverse xs) w e in
        let f = prefix_of xs s.0 w i s.1 (omega (arith, s.2)) in
        e ∙ ap Some (sym (reverse-reverse w)) ∙ ap (λ x. Some (reverse x)) (sym f)

pub removed_length : (xs : List Value) (n : ℕ) → IsSome (removed n (reverse xs)) → n ≤ length xs
removed_length xs n some = go (removed n (reverse xs)) refl some
  where
    go : (o : Option (List Value)) → removed n (reverse xs) ≡ o → IsSome o → n ≤ length xs
    go None e h = cc
    go (Some w) e h = let s = split_removed n (reverse xs) w e in omega (arith, length_of xs s.0 w s.1, s.2)

-- the topmost value of a vector
last_of : (xs rest : List Value) (v : Value) (i : ℕ) (d : Value) → reverse xs ≡ v ∷ rest → i ≡ length xs - 1 → get_or xs i d ≡ v
last_of xs rest v i d e k =
    let n : length xs ≡ 1 + length rest = length_of xs (v ∷ []) rest e in
    let x : xs ≡ reverse (reverse xs) = sym (reverse-reverse xs) in
    let within : i < length (reverse xs) = omega (arith, length-reverse xs) in
    let z : length (reverse xs) - 1 - i ≡ 0 = omega (arith, length-reverse xs) in
    ap (λ l. get_or l i d) x ∙ get_or-reverse (reverse xs) i d within ∙ ap (λ j. get_or (reverse xs) j d) z ∙ ap (λ l. get_or l 0 d) e

pub cut_length : (k : ValueType) (xs : List Value) (n : ℕ) → IsSome (cut (Some k) n (reverse xs)) → n + 1 ≤ length xs
cut_length k xs n some = go (reverse xs) refl some
  where
    inner : (rest : List Value) (v : Value) (o : Option (List Value)) → reverse xs ≡ v ∷ rest → removed n rest ≡ o → IsSome (keeping v o) → n + 1 ≤ length xs
    inner rest v None e r h = cc
    inner rest v (Some w) e r h =
        let s = split_removed n rest w r in
        omega (arith, length_of xs (v ∷ s.0) w (e ∙ ap (λ x. v ∷ x) s.1), s.2)

    go : (l : List Value) → reverse xs ≡ l → IsSome (cut (Some k) n l) → n + 1 ≤ length xs
    go [] e h = cc
    go (v ∷ rest) e h = inner rest v (removed n rest) e refl h

pub cut_view : (k : ValueType) (xs : List Value) (n top i j : ℕ) (value : Value) → top ≡ length xs - 1 → i ≡ top - n → j ≡ top + 1 - n → value ≡ get_or xs top value → IsSome (cut (Some k) n (reverse xs)) → cut (Some k) n (reverse xs) ≡ Some (reverse (take j (slice_set xs i value)))
cut_view k xs n top i j value et ei ej ev some =
    let small = cut_length k xs n some in
    let m : suc i ≡ j = omega arith in
    go (reverse xs) refl some ∙ ap (λ x. Some (reverse (take x (slice_set xs i value)))) m
  where
    inner : (rest : List Value) (v : Value) (o : Option (List Value)) → reverse xs ≡ v ∷ rest → removed n rest ≡ o → IsSome (keeping v o) → keeping v (removed n rest) ≡ Some (reverse (take (suc i) (slice_set xs i value)))
    inner rest v None e r h = cc
    inner rest v (Some w) e r h =
        let s = split_removed n rest w r in
        let e' : reverse xs ≡ (v ∷ s.0) ++ w = e ∙ ap (λ x. v ∷ x) s.1 in
        let l = length_of xs (v ∷ s.0) w e' in
        let within : i < length xs = omega (arith, l, s.2) in
        let prefix = prefix_of xs (v ∷ s.0) w i e' (omega (arith, l, s.2)) in
        let is_v : value ≡ v = ev ∙ last_of xs rest v top value e et in
        let kept : take (suc i) (slice_set xs i value) ≡ reverse w ++ v ∷ [] = take-suc-set xs i value within ∙ ap (λ x. x ++ value ∷ []) prefix ∙ ap (λ x. reverse w ++ x ∷ []) is_v in
        let back : reverse (reverse w ++ v ∷ []) ≡ v ∷ w = reverse-append (reverse w) (v ∷ []) ∙ ap (λ x. v ∷ x) (reverse-reverse w) in
        ap (keeping v) r ∙ ap Some (sym (ap reverse kept ∙ back))

    go : (l : List Value) → reverse xs ≡ l → IsSome (cut (Some k) n l) → cut (Some k) n (reverse xs) ≡ Some (reverse (take (suc i) (slice_set xs i value)))
    go [] e h = cc
    go (v ∷ rest) e h = ap (cut (Some k) n) e ∙ inner rest v (removed n rest) e refl h

split_arguments : (n : ℕ) (acc l : List Value) (r : List Value × List Value) → arguments n acc l ≡ Some r → (a : List Value) × (l ≡ a ++ r.1) × (length a ≡ n) × (r.0 ≡ reverse a ++ acc)
split_arguments zero acc l r e =
    let f : (acc, l) ≡ r = cc in
    ([], ap (λ (x : List Value × List Value). x.1) f, refl, sym (ap (λ (x : List Value × List Value). x.0) f))
split_arguments (suc n) acc [] r e = cc
split_arguments (suc n) acc (v ∷ l) r e =
    let s = split_arguments n (v ∷ acc) l r e in
    let back : reverse (v ∷ s.0) ++ acc ≡ reverse s.0 ++ (v ∷ acc) = ap (λ x. x ++ acc) (reverse-append (v ∷ []) s.0) ∙ append_assoc (reverse s.0) (v ∷ []) acc in
    (v ∷ s.0, ap (λ x. v ∷ x) s.1, omega (arith, s.2), s.3 ∙ sym back)

pub arguments_length : (xs : List Value) (n : ℕ) → IsSome (arguments n [] (reverse xs)) → n ≤ length xs
arguments_length xs n some = go (arguments n [] (reverse xs)) refl some
  where
    go : (o : Option (List Value × List Value)) → arguments n [] (reverse xs) ≡ o → IsSome o → n ≤ length xs
    go None e h = cc
    go (Some r) e h = let s = split_arguments n [] (reverse xs) r e in omega (arith, length_of xs s.0 r.1 s.1, s.2)

append-nil : (l : List Value) → l ++ [] ≡ l
append-nil [] = refl
append-nil (x ∷ l) = ap (λ t. x ∷ t) (append-nil l)

pub arguments_view : (xs : List Value) (n i : ℕ) → i ≡ length xs - n → IsSome (arguments n [] (reverse xs)) → arguments n [] (reverse xs) ≡ Some (drop i xs, reverse (take i xs))
arguments_view xs n i k some = go (arguments n [] (reverse xs)) refl some
  where
    go : (o : Option (List Value × List Value)) → arguments n [] (reverse xs) ≡ o → IsSome o → arguments n [] (reverse xs) ≡ Some (drop i xs, reverse (take i xs))
    go None e h = cc
    go (Some r) e h =
        let s = split_arguments n [] (reverse xs) r e in
        let l = length_of xs s.0 r.1 s.1 in
        let f = prefix_of xs s.0 r.1 i s.1 (omega (arith, s.2)) in
        let at : length (reverse r.1) ≡ i = omega (arith, length-reverse r.1, l, s.2) in
        let d : drop i xs ≡ reverse s.0 = ap (drop i) (vector_of xs s.0 r.1 s.1) ∙ drop_at (reverse r.1) (reverse s.0) i at in
        let a : r.0 ≡ drop i xs = s.3 ∙ append-nil (reverse s.0) ∙ sym d in
        let b : r.1 ≡ reverse (take i xs) = sym (reverse-reverse r.1) ∙ ap reverse (sym f) in
        e ∙ ap (λ x. Some (x, r.1)) a ∙ ap (λ x. Some (drop i xs, x)) b

-- the topmost value replaced
pub top_replaced : (xs below : List Value) (v x : Value) (i : ℕ) → reverse xs ≡ v ∷ below → i ≡ length xs - 1 → reverse (slice_set xs i x) ≡ x ∷ below
top_replaced xs below v x i e k =
    let n : i ≡ length (reverse below) = omega (arith, length_of xs (v ∷ []) below e, length-reverse below) in
    ap (λ ys. reverse (slice_set ys i x)) (vector_of xs (v ∷ []) below e) ∙ ap (λ j. reverse (slice_set (reverse below ++ v ∷ []) j x)) n
    ∙ ap reverse (set-append_seam (reverse below) v [] x) ∙ reverse-append (reverse below) (x ∷ []) ∙ ap (λ ys. x ∷ ys) (reverse-reverse below)

-- one more value replaced by a number
number_put : (i : ℕ) (ns : List ℕ) (vs : List Value) → i < length ns → length ns ≤ length vs → slice_set (map value.I64 (take i ns) ++ drop i vs) i (value.I64 (get_or ns i 0)) ≡ map value.I64 (take (suc i) ns) ++ drop (suc i) vs
number_put i [] vs h g = absurd (omega (arith, h))
number_put i (n ∷ ns) [] h g = absurd (omega (arith, g))
number_put zero (n ∷ ns) (v ∷ vs) h g = refl
number_put (suc i) (n ∷ ns) (v ∷ vs) h g = ap (λ rest. value.I64 n ∷ rest) (number_put i ns vs (omega (arith, h)) (omega (arith, g)))

pub put_more : (i j : ℕ) (ns : List ℕ) (vs now : List Value) → now ≡ map value.I64 (take i ns) ++ drop i vs → j ≡ i + 1 → i < length ns → length ns ≤ length vs → slice_set now i (value.I64 (get_or ns i 0)) ≡ map value.I64 (take j ns) ++ drop j vs
put_more i j ns vs now e k h g =
    let more : suc i ≡ j = omega arith in
    ap (λ xs. slice_set xs i (value.I64 (get_or ns i 0))) e ∙ number_put i ns vs h g ∙ ap (λ n. map value.I64 (take n ns) ++ drop n vs) more

-- the topmost value of a stack whose topmost value has a known type

pub top32_is : (ops : List Value) (n : ℕ) → slice_get ops 0 ≡ Some (value.I32 n) → (below : List Value) × (ops ≡ value.I32 n ∷ below)
top32_is [] n e = cc
top32_is (v ∷ ops) n e = let f : v ≡ value.I32 n = cc in (ops, ap (λ x. x ∷ ops) f)

pub top64_is : (ops : List Value) (n : ℕ) → slice_get ops 0 ≡ Some (value.I64 n) → (below : List Value) × (ops ≡ value.I64 n ∷ below)
top64_is [] n e = cc
top64_is (v ∷ ops) n e = let f : v ≡ value.I64 n = cc in (ops, ap (λ x. x ∷ ops) f)

pub has_top32 : (ops : List Value) → HasTop I32 ops → (n : ℕ) × (slice_get ops 0 ≡ Some (value.I32 n))
has_top32 [] h = absurd h
has_top32 (value.I32 n ∷ ops) h = (n, refl)
has_top32 (value.I64 n ∷ ops) h = absurd h

pub has_top64 : (ops : List Value) → HasTop I64 ops → (n : ℕ) × (slice_get ops 0 ≡ Some (value.I64 n))
has_top64 [] h = absurd h
has_top64 (value.I32 n ∷ ops) h = absurd h
has_top64 (value.I64 n ∷ ops) h = (n, refl)
