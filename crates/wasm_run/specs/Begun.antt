-- The start of a call against its definition (own).
use Rattle.std.specs.Prelude.{◌≡◌, true, false, Result, Ok, Err}
use Rattle.wasm_spec.specs.declared.module.Module.{Module}
use Rattle.wasm_spec.specs.Stores.{Store}
use Rattle.wasm_spec.specs.Instances.{Start, Missing, WrongArity, Segment, Ready, empty_store, segments_fit, filled}
use Rattle.wasm_run.specs.declared.error.StartErr.{StartErr}
use Rattle.wasm_run.specs.declared.error.StartErr.TheVariants as err
use Rattle.wasm_run.specs.declared.prepare.Beginning.{Beginning}

-- the start or the error is the defined one, unless memory ran out
abbrev pub IsStart : Start → Result Beginning StartErr → Type 0
IsStart s (Ok b) = s ≡ Ready b.function b.store
IsStart s (Err err.Missing) = s ≡ Missing
IsStart s (Err err.WrongArity) = s ≡ WrongArity
IsStart s (Err err.Segment) = s ≡ Segment
IsStart s (Err err.NoMemory) = Unit {0}

-- the initial store with the segments, if they fit, unless memory ran out
abbrev pub IsFirstStore : Module → Result Store StartErr → Type 0
IsFirstStore m (Ok s) = (segments_fit m (empty_store m) ≡ true) × (s ≡ filled m (empty_store m))
IsFirstStore m (Err err.Segment) = segments_fit m (empty_store m) ≡ false
IsFirstStore m (Err err.NoMemory) = Unit {0}
IsFirstStore m (Err err.Missing) = ⊥
IsFirstStore m (Err err.WrongArity) = ⊥
