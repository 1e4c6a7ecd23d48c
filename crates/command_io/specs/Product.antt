-- The product of a command, apart from its form in memory (own).
use Rattle.std.specs.Prelude.{ℕ, List, [], ◌∷◌}

-- a file option by its number, and the name given for it
pub record File : Type 0 where
  pub option : ℕ
  pub name : List ℕ

abbrev pub file : ℕ → List ℕ → File
file option name = record { option = option; name = name }

-- bytes for a file
pub record Job : Type 0 where
  pub file : File
  pub bytes : List ℕ

-- the stores in their order, and the lines that are then printed
pub record Made : Type 0 where
  pub stores : List Job
  pub lines : List ℕ

-- these bytes are stored in this file, and then these lines are printed
abbrev pub stored_and_said : File → List ℕ → List ℕ → Made
stored_and_said file bytes lines = record { stores = record { file = file; bytes = bytes } ∷ []; lines = lines }
