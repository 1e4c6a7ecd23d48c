-- The 63 characters of symbols, and their numbers in small symbols (CAP-0046-01).
use Rattle.std.specs.Prelude.{ℕ, ◌+◌, ◌-◌, Bool, false, ◌==◌, nat_le, Option, Some, None, is_some, if◌then◌else◌}

abbrev pub between : ℕ → ℕ → ℕ → Bool
between low high c = if nat_le low c then nat_le c high else false

-- 1 for the underscore, from 2 on the digits, from 12 on the upper-case letters, from 38 to 63 the lower-case ones
abbrev pub number_of : ℕ → Option ℕ
number_of c =
    if c == 95 then Some 1 else
    if between 48 57 c then Some (2 + (c - 48)) else
    if between 65 90 c then Some (12 + (c - 65)) else
    if between 97 122 c then Some (38 + (c - 97)) else None

-- the character of a number from 1 to 63
abbrev pub character_of : ℕ → Option ℕ
character_of n =
    if n == 1 then Some 95 else
    if between 2 11 n then Some (48 + (n - 2)) else
    if between 12 37 n then Some (65 + (n - 12)) else
    if between 38 63 n then Some (97 + (n - 38)) else None

abbrev pub is_character : ℕ → Bool
is_character c = is_some (number_of c)
