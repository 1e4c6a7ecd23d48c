-- The calls that have not ended (own).
use Rattle.std.specs.Prelude.{◌-◌, List, [], ◌∷◌, ◌++◌, Option, length, take, nat_lt, if◌then◌else◌}
use Rattle.std.specs.List.{slice_get}
use Rattle.budget_meter.specs.declared.budget.Used.{Used}
use Rattle.run_trace.specs.declared.line.Manner.{Manner}
use Rattle.run_trace.specs.declared.calls.Open.{Open}

-- a call that began at these sums
abbrev pub call_at : Used → Manner → Open
call_at used manner = record { used = used; manner = manner }

-- the call that began last
abbrev pub innermost : List Open → Option Open
innermost calls = slice_get calls (length calls - 1)

-- the calls around it
abbrev pub around : List Open → List Open
around calls = take (length calls - 1) calls

-- One more call has begun. There is room for 128. A call beyond them is not held: its end counts as that of the call around it.
abbrev pub with_call : Open → List Open → List Open
with_call call calls = if nat_lt (length calls) 128 then calls ++ call ∷ [] else calls
