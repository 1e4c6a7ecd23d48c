-- Lines that are put together piece by piece.
use Rattle.std.proofs.Common.{◌≡◌, ℕ, ◌-◌, ◌^◌, List, ◌++◌, length, ◌∙◌, ap, arith}
use Rattle.std.specs.Prelude.{codes, decimal, min}
use Rattle.value_types.specs.Depth.{value_depth}
use Rattle.value_types.specs.Formats.{kind, scval_format}
use Rattle.value_types.specs.Kinds.{number}
use Rattle.value_types.specs.declared.value.ScVal.{ScVal}
use Rattle.show_lines.specs.LedgerLines.{value_line}
use Rattle.show_lines.proofs.Depths.{depth_at_most}

-- the depth of a value that has a spelling is no other number
depth_shown : (v : ScVal) (d : ℕ) → scval_format.fits v → d ≡ min (value_depth v) (2 ^ 64 - 1) → d ≡ value_depth v
depth_shown v d fits is = omega (arith, depth_at_most v fits, is)

pub value_shown : (v : ScVal) (a b c line : List ℕ) (t s d : ℕ) → scval_format.fits v → t ≡ number (kind v) → s ≡ length (scval_format.spell v) → d ≡ min (value_depth v) (2 ^ 64 - 1)
    → a ≡ codes "type " → b ≡ a ++ decimal t ++ codes " size " → c ≡ b ++ decimal s ++ codes " depth " → line ≡ c ++ decimal d ++ codes "\n" → line ≡ value_line v
value_shown v a b c line t s d fits is_type is_size is_depth first second third fourth =
    fourth
    ∙ ap (λ l. l ++ decimal d ++ codes "\n") (third ∙ ap (λ l. l ++ decimal s ++ codes " depth ") (second ∙ ap (λ l. l ++ decimal t ++ codes " size ") first))
    ∙ ap (λ n. codes "type " ++ decimal n ++ codes " size " ++ decimal s ++ codes " depth " ++ decimal d ++ codes "\n") is_type
    ∙ ap (λ n. codes "type " ++ decimal (number (kind v)) ++ codes " size " ++ decimal n ++ codes " depth " ++ decimal d ++ codes "\n") is_size
    ∙ ap (λ n. codes "type " ++ decimal (number (kind v)) ++ codes " size " ++ decimal (length (scval_format.spell v)) ++ codes " depth " ++ decimal n ++ codes "\n") (depth_shown v d fits is_depth)
