-- Charges and tests before an act, as the code makes them (own).
use Rattle.std.specs.Prelude.{◌≡◌, Result, Ok, Err}
use Rattle.budget_meter.specs.Meter.{Meter}
use Rattle.value_types.specs.Views.{datum}
use Rattle.value_types.specs.declared.value.ScVal.{ScVal}
use Rattle.value_xdr.specs.Bytes.{IsBounded}
use Rattle.host_spec.specs.declared.error.ValueErr.{ValueErr}
use Rattle.host_spec.specs.declared.error.ValueErr.TheVariants as errs
use Rattle.call_spec.specs.World.{World}
use Rattle.call_spec.specs.Acts.{Failure, Failed, Spent, Act, Bad}

-- each number, length and count of the value is in its range
abbrev pub IsEncodable : ScVal → Type 0
IsEncodable v = IsBounded (datum v)

abbrev pub with_meter : Meter → World → World
with_meter meter w = record w { meter = meter }

-- In each world with this budget, the tests before an act pass with that budget then.
abbrev pub Passes : {A : Type 0} → (Act A → Act A) → Meter → Meter → Type 0
Passes {A} enter before after = (act : Act A) (w : World) → w.meter ≡ before → enter act w ≡ act (with_meter after w)

-- In each world with this budget, the tests before an act end so, with that budget then.
abbrev pub Stops : {A : Type 0} → Failure → (Act A → Act A) → Meter → Meter → Type 0
Stops {A} failure enter before after =
    (act : Act A) (w : World) → w.meter ≡ before → enter act w ≡ Bad failure (with_meter after w)

-- A call makes the charges and tests before an act. Memory may run out at any time.
abbrev pub Enters : {A : Type 0} → Result (Unit {0}) ValueErr → (Act A → Act A) → Meter → Meter → Type 0
Enters (Ok u) enter before after = Passes enter before after
Enters (Err (errs.Failed e)) enter before after = Stops (Failed e) enter before after
Enters (Err errs.Spent) enter before after = Stops Spent enter before after
Enters (Err errs.NoMemory) enter before after = Unit {0}
