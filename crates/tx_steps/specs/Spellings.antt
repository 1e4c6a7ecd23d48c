-- The XDR bytes of keys, as the code keeps them (own).
use Rattle.std.specs.Prelude.{ℕ, Vec, List, map}

abbrev pub items_of : {Z : Type 0} → Vec ℕ Z → List ℕ
items_of bytes = bytes.items

abbrev pub bytes_of : {Z : Type 0} → List (Vec ℕ Z) → List (List ℕ)
bytes_of spellings = map items_of spellings
