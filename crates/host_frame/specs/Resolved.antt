-- What a call finds for a word.
use Rattle.std.specs.Prelude.{◌≡◌, Result, Ok, Err}
use Rattle.value_types.specs.declared.error.ScError.{ScError}
use Rattle.host_spec.specs.declared.error.ValueErr.{ValueErr}
use Rattle.host_spec.specs.declared.error.ValueErr.TheVariants as errs

-- A call finds what a word means, or its error. Memory may run out at any time.
abbrev pub Resolves : {A B : Type 0} → Result A ValueErr → (A → B) → Result B ScError → Type 0
Resolves (Ok a) view m = m ≡ Ok (view a)
Resolves (Err (errs.Failed e)) view m = m ≡ Err e
Resolves (Err errs.Spent) view m = ⊥
Resolves (Err errs.NoMemory) view m = Unit {0}
