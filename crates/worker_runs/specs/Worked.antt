-- Work on each job of a list (own).
use Rattle.std.specs.Prelude.{ℕ, suc, ◌+◌, ◌^◌, ◌<◌, List, [], ◌∷◌, length}

-- Each job of the list can be worked on; the first one has this index.
abbrev pub CanWork : {J : Type 0} → (ℕ → J → Type 0) → ℕ → List J → Type 0
CanWork can index [] = Unit {0}
CanWork can index (job ∷ jobs) = can index job × CanWork can (suc index) jobs

-- the same, with indices that a `usize` can hold
abbrev pub IsRun : {J : Type 0} → (ℕ → J → Type 0) → ℕ → List J → Type 0
IsRun can index jobs = (index + length jobs < 2 ^ 64) × CanWork can index jobs

-- Each job of the first list was worked on, and became the one of the second list at its index; the first one has this index.
abbrev pub IsWorked : {J : Type 0} → (ℕ → J → J → Type 0) → ℕ → List J → List J → Type 0
IsWorked gives index [] [] = Unit {0}
IsWorked gives index [] (y ∷ ys) = ⊥
IsWorked gives index (x ∷ xs) [] = ⊥
IsWorked gives index (x ∷ xs) (y ∷ ys) = gives index x y × IsWorked gives (suc index) xs ys
