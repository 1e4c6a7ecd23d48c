-- How a run ended that recorded its keys (own).
use Rattle.std.specs.Prelude.{Bool, true, false, Result, Ok, Err}
use Rattle.host_spec.specs.declared.error.HostErr.{HostErr}
use Rattle.host_spec.specs.declared.error.HostErr.TheVariants as ends

-- memory ran out
abbrev pub ran_out : {A : Type 0} → Result A HostErr → Bool
ran_out (Ok v) = false
ran_out (Err ends.NoMemory) = true
ran_out (Err e) = false
