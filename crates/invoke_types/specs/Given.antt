-- The arguments of a call (own).
use Rattle.std.specs.Prelude.{List, [], Option, Some, None, map}
use Rattle.value_types.specs.Datum.{Datum}
use Rattle.value_types.specs.Views.{scval}
use Rattle.value_types.specs.declared.value.ScVal.{ScVal}

-- the arguments that are kept as the members of a vec, or none
abbrev pub given : Option (List Datum) → List ScVal
given None = []
given (Some ds) = map scval ds
