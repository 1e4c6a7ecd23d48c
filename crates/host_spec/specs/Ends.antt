-- The end of a function over values as the end of a host function.
use Rattle.host_spec.specs.declared.error.ValueErr.{ValueErr}
use Rattle.host_spec.specs.declared.error.ValueErr.TheVariants as values
use Rattle.host_spec.specs.declared.error.HostErr.{HostErr}
use Rattle.host_spec.specs.declared.error.HostErr.TheVariants as ends

abbrev pub host_end : ValueErr → HostErr
host_end (values.Failed e) = ends.Failed e
host_end values.Spent = ends.Spent
host_end values.NoMemory = ends.NoMemory
