-- The keys that errors name.
use Rattle.ledger_types.specs.Key.{key_format}
use Rattle.host_spec.specs.declared.error.HostErr.{HostErr}
use Rattle.host_spec.specs.declared.error.HostErr.TheVariants as ends

-- If the error names a key, the key has a spelling.
abbrev pub IsKeySpelled : HostErr → Type 0
IsKeySpelled (ends.Undeclared key) = key_format.fits key
IsKeySpelled (ends.Archived key) = key_format.fits key
IsKeySpelled (ends.Failed e) = Unit {0}
IsKeySpelled ends.Spent = Unit {0}
IsKeySpelled ends.NoMemory = Unit {0}
