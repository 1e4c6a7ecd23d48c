-- Linking with the imports that a host has (own).
use Rattle.std.specs.Prelude.{◌≡◌, ℕ, ◌⊎◌, ◌==◌, ◌&&◌, Bool, false, List, [], ◌∷◌, length, take, replicate, Option, Some, None}
use Rattle.std.specs.Prelude.{slice_get, is_some, if◌then◌else◌}
use Rattle.std.specs.List.{list_all, AllByRecursion}
use Rattle.std.specs.Str.{bytes_eq}
use Rattle.wasm_spec.specs.declared.types.ValueType.{ValueType}
use Rattle.wasm_spec.specs.declared.types.ValueType.TheVariants.{I64}
use Rattle.wasm_spec.specs.declared.types.FuncType.{FuncType}
use Rattle.wasm_spec.specs.declared.module.Import.{Import}
use Rattle.wasm_spec.specs.declared.module.Module.{Module}
use Rattle.host_interface.specs.Rows.{Row}
use Rattle.module_spec.specs.Check.{same_type}

-- some item of the list has the property
abbrev pub SomeOf : {A : Type 0} → (A → Type 0) → List A → Type 0
SomeOf P [] = ⊥
SomeOf P (x ∷ xs) = P x ⊎ SomeOf P xs

-- the import is the host import of the row, with its type: from an i64 for each argument to one i64
abbrev pub IsHostImport : Import → FuncType → Row → Type 0
IsHostImport i t row =
    (i.module ≡ row.letter) × (i.name ≡ row.name) × (t.params ≡ replicate (length row.arguments) I64) × (t.results ≡ I64 ∷ [])

-- the import is one of the host's, with its type
abbrev pub ImportLinked : List Row → Module → Import → Type 0
ImportLinked rows m i = (t : FuncType) × (slice_get m.types i.type_index ≡ Some t) × SomeOf (IsHostImport i t) rows

-- each import of the module is one of the host's
abbrev pub Linked : List Row → Module → Type 0
Linked rows m = AllByRecursion (ImportLinked rows m) m.imports

-- the import of this index is the first that is none of the host's
abbrev pub IsFirstUnlinked : List Row → Module → ℕ → Type 0
IsFirstUnlinked rows m k = (i : Import) × (slice_get m.imports k ≡ Some i) × (ImportLinked rows m i → ⊥)
    × AllByRecursion (ImportLinked rows m) (take k m.imports)

-- the same as functions

abbrev pub one_i64 : List ValueType → Bool
one_i64 [] = false
one_i64 (t ∷ []) = same_type t I64
one_i64 (t ∷ u ∷ ts) = false

abbrev pub type_matches : ℕ → FuncType → Bool
type_matches arity t = (length t.params == arity) && (list_all (λ p. same_type p I64) t.params && one_i64 t.results)

abbrev pub matches : Import → FuncType → Row → Bool
matches i t row = bytes_eq i.module row.letter && (bytes_eq i.name row.name && type_matches (length row.arguments) t)

-- the row, if its host import has this type
abbrev pub with_type : Option Row → FuncType → Option Row
with_type None t = None
with_type (Some row) t = if type_matches (length row.arguments) t then Some row else None

-- the first row whose host import it is
abbrev pub find_row : List Row → Import → FuncType → Option Row
find_row [] i t = None
find_row (row ∷ rows) i t = if matches i t row then Some row else find_row rows i t

abbrev pub typed_row : List Row → Import → Option FuncType → Option Row
typed_row rows i None = None
typed_row rows i (Some t) = find_row rows i t

-- the row of an import of the module
abbrev pub import_row : List Row → Module → Import → Option Row
import_row rows m i = typed_row rows i (slice_get m.types i.type_index)

abbrev pub import_ok : List Row → Module → Import → Bool
import_ok rows m i = is_some (import_row rows m i)
