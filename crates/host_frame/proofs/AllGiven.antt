-- Laws of words that are given one after another.
use Rattle.std.proofs.Common.{◌≡◌, ℕ, zero, suc, ◌+◌, ◌<◌, ◌≤◌, List, [], ◌∷◌, ◌++◌, length, get_or, drop, refl, sym, ap, ◌∙◌, arith, append_assoc}
use Rattle.value_types.specs.Datum.{Datum}
use Rattle.value_types.specs.Views.{datum, datums}
use Rattle.value_types.specs.declared.value.ScVal.{ScVal}
use Rattle.host_spec.specs.Acts.{State, Out, Good, Failed, Spent, Act, then_do, gives}
use Rattle.host_spec.specs.Answers.{value, given}
use Rattle.host_spec.specs.VecRows.{all_given}

-- the words of these values after some words
abbrev pub given_after : List ℕ → List Datum → Act (List ℕ)
given_after words ds w = then_do (all_given ds w) (λ more. gives (words ++ more))

-- one more word after some words
abbrev pub given_next : List ℕ → Datum → Act (List ℕ)
given_next words d w = then_do (given (value d) w) (λ word. gives (words ++ word ∷ []))

regrouped : (words : List ℕ) (word : ℕ) (y : Out (List ℕ)) → then_do (then_do y (λ more. gives (word ∷ more))) (λ more. gives (words ++ more)) ≡ then_do y (λ more. gives ((words ++ word ∷ []) ++ more))
regrouped words word (Good ws u) = ap (λ (z : List ℕ). Good z u) (sym (append_assoc words (word ∷ []) ws))
regrouped words word (Failed e u) = refl
regrouped words word (Spent u) = refl

next_good : (words new : List ℕ) (ds : List Datum) (x : Out ℕ) (u : State) → then_do x (λ word. gives (words ++ word ∷ [])) ≡ Good new u
    → then_do (then_do x (λ word v. then_do (all_given ds v) (λ more. gives (word ∷ more)))) (λ more. gives (words ++ more)) ≡ given_after new ds u
next_good words new ds (Good word v) u h =
    let e : words ++ word ∷ [] ≡ new = cc in
    let f : v ≡ u = cc in
    regrouped words word (all_given ds v) ∙ ap (λ (t : State). given_after (words ++ word ∷ []) ds t) f ∙ ap (λ (z : List ℕ). given_after z ds u) e
next_good words new ds (Failed e v) u h = absurd cc
next_good words new ds (Spent v) u h = absurd cc

-- a word that is given is before the words that are left
pub after_next : (words new : List ℕ) (d : Datum) (ds : List Datum) (w u : State) → given_next words d w ≡ Good new u → given_after words (d ∷ ds) w ≡ given_after new ds u
after_next words new d ds w u h = next_good words new ds (given (value d) w) u h

-- the value at an index, and those after it
pub left_at : (vs : List ScVal) (i j : ℕ) (v : ScVal) → j ≡ i + 1 → i < length vs → v ≡ get_or vs i v → datums (drop i vs) ≡ datum v ∷ datums (drop j vs)
left_at [] i j v next lt is = absurd (omega arith)
left_at (x ∷ vs) zero j v next lt is = let one : j ≡ 1 = omega arith in rw (one, ← is) refl
left_at (x ∷ vs) (suc i) j v next lt is =
    let more : j ≡ suc (i + 1) = omega arith in
    left_at vs i (i + 1) v refl (omega arith) is ∙ ap (λ (n : ℕ). datum v ∷ datums (drop n (x ∷ vs))) (sym more)

pub left_end : (vs : List ScVal) (i : ℕ) → length vs ≤ i → datums (drop i vs) ≡ []
left_end [] zero h = refl
left_end [] (suc i) h = refl
left_end (x ∷ vs) zero h = absurd (omega arith)
left_end (x ∷ vs) (suc i) h = left_end vs i (omega arith)
