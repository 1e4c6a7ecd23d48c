-- Values that a function makes.
use Rattle.std.specs.Prelude.{◌<◌, ◌≤◌, ℕ, List, length, ⊤}
use Rattle.std.specs.List.{AllByRecursion}
use Rattle.value_types.specs.Datum.{Datum}
use Rattle.host_spec.specs.Words.{object_tag}
use Rattle.host_spec.specs.Hosted.{IsMade}
use Rattle.host_spec.specs.Answers.{Answer, value, object, raw}

-- each is a value of the host's types in good form
abbrev pub AreMade : List Datum → Type 0
AreMade ds = AllByRecursion IsMade ds

abbrev pub IsPairMade : Datum × Datum → Type 0
IsPairMade m = IsMade m.0 × IsMade m.1

abbrev pub ArePairsMade : List (Datum × Datum) → Type 0
ArePairsMade ms = AllByRecursion IsPairMade ms

-- a value whose type has objects
pub record IsObjectMade (d : Datum) : Type 0 where
  pub made : IsMade d
  pub tag : 0 < object_tag d

-- an answer may be shown if its size and depth are within the limits
abbrev pub IsAnswerMade : Answer → Type 0
IsAnswerMade (value d) = IsMade d
IsAnswerMade (object d) = IsObjectMade d
IsAnswerMade (raw word) = ⊤

-- the length of a linear memory: at most 64 pages
abbrev pub IsMemory : List ℕ → Type 0
IsMemory memory = length memory ≤ 4194304
