-- Results of the code's validation against validation as a function (own).
use Rattle.std.specs.Prelude.{◌≡◌, Option, Some, None, Result, Ok, Err}
use Rattle.module_spec.specs.Check.{Shape}
use Rattle.wasm_check.specs.declared.error.Fault.{Fault}
use Rattle.wasm_check.specs.declared.error.Fault.TheVariants.{Ill, NoMemory}

-- the code's result is that of the function, unless memory ran out
abbrev pub Checks : Option Shape → Result (Unit {0}) Fault → Shape → Type 0
Checks o (Ok u) new = o ≡ Some new
Checks o (Err NoMemory) new = Unit {0}
Checks o (Err Ill) new = o ≡ None

-- the rest of the validation after a part of it, unless memory ran out
abbrev pub ChecksOn : Option Shape → Result (Unit {0}) Fault → Option Shape → Type 0
ChecksOn o (Ok u) next = o ≡ next
ChecksOn o (Err NoMemory) next = Unit {0}
ChecksOn o (Err Ill) next = o ≡ None

-- the code accepts exactly if the function returns a shape, unless memory ran out
abbrev pub IsChecked : Option Shape → Result (Unit {0}) Fault → Type 0
IsChecked o (Ok u) = (s : Shape) × (o ≡ Some s)
IsChecked o (Err NoMemory) = Unit {0}
IsChecked o (Err Ill) = o ≡ None
