-- Work on each job, by the jobs' indices and by runs.
use Rattle.std.proofs.Common.{◌≡◌, ℕ, zero, suc, ◌+◌, ◌<◌, List, [], ◌∷◌, ◌++◌, length, get_or, arith, subst}
use Rattle.worker_runs.specs.Worked.{CanWork, IsWorked}

module _ {J : Type 0} (can : ℕ → J → Type 0) where
  pub can_at : (i k : ℕ) (xs : List J) (d : J) → k < length xs → CanWork can i xs → can (i + k) (get_or xs k d)
  can_at i k [] d l h = absurd (omega arith)
  can_at i zero (x ∷ xs) d l h = subst (λ n. can n x) (omega arith) h.0
  can_at i (suc k) (x ∷ xs) d l h = subst (λ n. can n (get_or xs k d)) (omega arith) (can_at (suc i) k xs d (omega arith) h.1)

  pub can_front : (i : ℕ) (xs ys : List J) → CanWork can i (xs ++ ys) → CanWork can i xs
  can_front i [] ys h = tt
  can_front i (x ∷ xs) ys h = (h.0, can_front (suc i) xs ys h.1)

  pub can_back : (i : ℕ) (xs ys : List J) → CanWork can i (xs ++ ys) → CanWork can (i + length xs) ys
  can_back i [] ys h = subst (λ n. CanWork can n ys) (omega arith) h
  can_back i (x ∷ xs) ys h = subst (λ n. CanWork can n ys) (omega arith) (can_back (suc i) xs ys h.1)

module _ {J : Type 0} (gives : ℕ → J → J → Type 0) where
  pub worked_by_index : (i : ℕ) (xs ys : List J) → length ys ≡ length xs
      → ((k : ℕ) (d : J) → k < length xs → gives (i + k) (get_or xs k d) (get_or ys k d)) → IsWorked gives i xs ys
  worked_by_index i [] [] e h = tt
  worked_by_index i [] (y ∷ ys) e h = absurd (omega arith)
  worked_by_index i (x ∷ xs) [] e h = absurd (omega arith)
  worked_by_index i (x ∷ xs) (y ∷ ys) e h = (
    subst (λ n. gives n x y) (omega arith) (h 0 x (omega arith)),
    worked_by_index (suc i) xs ys (omega arith) (λ k d l. subst (λ n. gives n (get_or xs k d) (get_or ys k d)) (omega arith) (h (suc k) d (omega arith))),
  )

  pub worked_both : (i : ℕ) (xs us ys vs : List J) → IsWorked gives i xs us → IsWorked gives (i + length xs) ys vs → IsWorked gives i (xs ++ ys) (us ++ vs)
  worked_both i [] [] ys vs h k = subst (λ n. IsWorked gives n ys vs) (omega arith) k
  worked_both i [] (u ∷ us) ys vs h k = absurd h
  worked_both i (x ∷ xs) [] ys vs h k = absurd h
  worked_both i (x ∷ xs) (u ∷ us) ys vs h k =
      (h.0, worked_both (suc i) xs us ys vs h.1 (subst (λ n. IsWorked gives n ys vs) (omega arith) k))
