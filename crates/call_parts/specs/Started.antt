-- The start of a call of a module's function.
use Rattle.std.specs.Prelude.{◌≡◌, ℕ, List, Result, Ok, Err, Option, Some, None}
use Rattle.value_types.specs.declared.error.ScError.{ScError}
use Rattle.wasm_spec.specs.declared.module.Module.{Module}
use Rattle.wasm_spec.specs.Stores.{Store}
use Rattle.wasm_spec.specs.Instances.{Start, Missing, WrongArity, Segment, Ready, start_of}
use Rattle.wasm_run.specs.Suspended.{Suspended, IsFresh}
use Rattle.host_spec.specs.declared.error.HostErr.{HostErr}
use Rattle.host_spec.specs.declared.error.HostErr.TheVariants as ends
use Rattle.call_spec.specs.Errors.{NO_FUNCTION, OTHER_ARITY, SEGMENT_OUTSIDE}

-- the error that `with_start` fails with, if it fails
abbrev pub refusal_of : Start → Option ScError
refusal_of Missing = Some NO_FUNCTION
refusal_of WrongArity = Some OTHER_ARITY
refusal_of Segment = Some SEGMENT_OUTSIDE
refusal_of (Ready index store) = None

-- The instance is at the start of a call of this function with so many arguments, or the start is refused with the error. Memory
-- may run out at any time.
abbrev pub IsStarted : Module → List ℕ → ℕ → Result Suspended HostErr → Type 0
IsStarted m function n (Ok i) =
    (index : ℕ) × (store : Store) × (start_of m function n ≡ Ready index store) × IsFresh i m index n store
IsStarted m function n (Err (ends.Failed e)) = refusal_of (start_of m function n) ≡ Some e
IsStarted m function n (Err ends.NoMemory) = Unit {0}
IsStarted m function n (Err _) = ⊥
