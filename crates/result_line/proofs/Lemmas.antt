-- Lines that are put together piece by piece.
use Rattle.std.proofs.Common.{◌≡◌, ℕ, List, ◌++◌, ◌∙◌, ap, append_assoc}

-- a line with two numbers, behind other lines
pub two_numbers : (old a b c d e x y z : List ℕ) → x ≡ old ++ a → y ≡ x ++ b ++ c → z ≡ y ++ d ++ e → z ≡ old ++ (a ++ (b ++ (c ++ (d ++ e))))
two_numbers old a b c d e x y z first second third =
    third ∙ ap (λ l. l ++ d ++ e) (second ∙ ap (λ l. l ++ b ++ c) first)
    ∙ append_assoc (((old ++ a) ++ b) ++ c) d e ∙ append_assoc ((old ++ a) ++ b) c (d ++ e) ∙ append_assoc (old ++ a) b (c ++ (d ++ e)) ∙ append_assoc old a (b ++ (c ++ (d ++ e)))
