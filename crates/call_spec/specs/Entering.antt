-- Arguments that enter the host from outside: those of a transaction, and those of the function that checks an authorisation
-- (own).
use Rattle.std.specs.Prelude.{List, [], ◌∷◌, nat_le, Result, Ok, Err, if◌then◌else◌}
use Rattle.budget_meter.specs.declared.kind.Kind.TheVariants.{ValDeser}
use Rattle.value_types.specs.Datum.{Datum}
use Rattle.value_types.specs.Depth.{depth_of}
use Rattle.value_types.specs.declared.error.ScError.{ScError}
use Rattle.host_spec.specs.Errors.{TOO_LARGE}
use Rattle.host_spec.specs.Hosted.{size_of, entry}
use Rattle.call_spec.specs.Acts.{Act, fails, paying}

-- The entry of an argument. Arguments of a transaction are never too deep. What an authorisation is for may be.
abbrev pub argument_entry : Datum → Result Datum ScError
argument_entry d = if nat_le (depth_of d) 100 then entry d else Err TOO_LARGE

abbrev pub only_if_let_in : {A : Type 0} → Result Datum ScError → Act A → Act A
only_if_let_in (Err e) act = fails e
only_if_let_in (Ok d) act = act

-- Arguments enter the host one by one, each after its charge.
abbrev pub entering : {A : Type 0} → List Datum → Act A → Act A
entering [] act = act
entering (d ∷ ds) act = paying ValDeser (size_of d) (only_if_let_in (argument_entry d) (entering ds act))
