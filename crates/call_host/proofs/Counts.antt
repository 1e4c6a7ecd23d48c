-- The words of a call, by their number.
use Rattle.std.proofs.Common.{◌≡◌, ℕ, List, [], ◌∷◌, length, get_or, refl, arith}

pub just_one : (ws : List ℕ) → length ws ≡ 1 → ws ≡ get_or ws 0 0 ∷ []
just_one (a ∷ []) e = refl
just_one [] e = absurd (omega arith)
just_one (a ∷ b ∷ ws) e = absurd (omega arith)

pub just_two : (ws : List ℕ) → length ws ≡ 2 → ws ≡ get_or ws 0 0 ∷ get_or ws 1 0 ∷ []
just_two (a ∷ b ∷ []) e = refl
just_two [] e = absurd (omega arith)
just_two (a ∷ []) e = absurd (omega arith)
just_two (a ∷ b ∷ c ∷ ws) e = absurd (omega arith)

pub just_three : (ws : List ℕ) → length ws ≡ 3 → ws ≡ get_or ws 0 0 ∷ get_or ws 1 0 ∷ get_or ws 2 0 ∷ []
just_three (a ∷ b ∷ c ∷ []) e = refl
just_three [] e = absurd (omega arith)
just_three (a ∷ []) e = absurd (omega arith)
just_three (a ∷ b ∷ []) e = absurd (omega arith)
just_three (a ∷ b ∷ c ∷ d ∷ ws) e = absurd (omega arith)

pub just_four : (ws : List ℕ) → length ws ≡ 4 → ws ≡ get_or ws 0 0 ∷ get_or ws 1 0 ∷ get_or ws 2 0 ∷ get_or ws 3 0 ∷ []
just_four (a ∷ b ∷ c ∷ d ∷ []) e = refl
just_four [] e = absurd (omega arith)
just_four (a ∷ []) e = absurd (omega arith)
just_four (a ∷ b ∷ []) e = absurd (omega arith)
just_four (a ∷ b ∷ c ∷ []) e = absurd (omega arith)
just_four (a ∷ b ∷ c ∷ d ∷ x ∷ ws) e = absurd (omega arith)
