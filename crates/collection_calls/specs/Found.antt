-- What a call finds (own).
use Rattle.std.specs.Prelude.{◌≡◌, Option, Some, None, Result, Ok, Err}
use Rattle.host_spec.specs.Errors.{INVALID_VALUE}
use Rattle.host_spec.specs.declared.error.ValueErr.{ValueErr}
use Rattle.host_spec.specs.declared.error.ValueErr.TheVariants as errs

-- A call finds what there is, or fails since there is nothing. Memory may run out at any time.
abbrev pub Finds : {A B : Type 0} → Result A ValueErr → (A → B) → Option B → Type 0
Finds (Ok a) view o = o ≡ Some (view a)
Finds (Err (errs.Failed e)) view o = (o ≡ None) × (e ≡ INVALID_VALUE)
Finds (Err errs.Spent) view o = ⊥
Finds (Err errs.NoMemory) view o = Unit {0}
