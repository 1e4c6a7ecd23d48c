-- What is left after an address was asked, in the program's terms.
use Rattle.value_types.specs.Views.{datums}
use Rattle.host_spec.specs.Hosted.{AreHosted}
use Rattle.host_spec.specs.declared.error.ValueErr.{ValueErr}
use Rattle.host_spec.specs.declared.error.ValueErr.TheVariants as errs
use Rattle.host_spec.specs.declared.error.HostErr.{HostErr}
use Rattle.host_spec.specs.declared.error.HostErr.TheVariants as ends
use Rattle.call_spec.specs.Errors.{DENIED}
use Rattle.auth_parts.specs.Asked.{Asked, proved, by_contract}
use Rattle.auth_parts.specs.declared.asking.Asked.{Asked as Asked'}
use Rattle.auth_parts.specs.declared.asking.Asked.TheVariants.{Proved, ByContract}

abbrev pub asked : Asked' → Asked
asked Proved = proved
asked (ByContract contract args) = by_contract contract (datums args.items)

-- the arguments are values that the host holds
abbrev pub IsAskedHosted : Asked' → Type 0
IsAskedHosted Proved = Unit {0}
IsAskedHosted (ByContract contract args) = AreHosted (datums args.items)

-- every failure is one of authorisation
abbrev pub denied_end : ValueErr → HostErr
denied_end (errs.Failed e) = ends.Failed DENIED
denied_end errs.Spent = ends.Spent
denied_end errs.NoMemory = ends.NoMemory
