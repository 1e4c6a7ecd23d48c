-- The invariant of an instance (own).
use Rattle.std.specs.Prelude.{◌≡◌, ℕ, ◌-◌, ◌*◌, ◌^◌, ◌<◌, Bool, List, [], length, map, reverse, replicate, true, false, Some}
use Rattle.std.specs.Prelude.{slice_get}
use Rattle.budget_meter.specs.Meter.{Meter}
use Rattle.wasm_spec.specs.declared.values.Value.{Value}
use Rattle.wasm_spec.specs.declared.values.Value.TheVariants as value
use Rattle.wasm_spec.specs.declared.module.Function.{Function}
use Rattle.wasm_spec.specs.Typing.{Typed}
use Rattle.wasm_spec.specs.Runs.{Run}
use Rattle.wasm_spec.specs.Meaning.{is_import, start_locals}
use Rattle.wasm_spec.specs.Instances.{Ready, start_of}
use Rattle.wasm_code.specs.Placed.{IsCompiled}
use Rattle.wasm_run.specs.declared.instance.CallPhase.{CallPhase}
use Rattle.wasm_run.specs.declared.instance.CallPhase.TheVariants as phase
use Rattle.wasm_run.specs.Suspended.{Suspended, standing, Goes, GoesOnWith}

-- at the start of a call, before the step of this index
pub record BeginsAt (i : Suspended) (pc : ℕ) (operands locals : List Value) : Type 0 where
  pub pc_ : i.pc ≡ pc
  pub operands_ : i.operands ≡ operands
  pub locals_ : i.locals ≡ locals
  pub frames_ : i.frames ≡ []
  pub left_ : i.left ≡ 2 ^ 64 - 1

-- at the start of a function of the module, with these values as its arguments
abbrev pub BeginsIn : Suspended → ℕ → List Value → Type 0
BeginsIn i index args =
    (own : Function) × (entry : ℕ) × (slice_get i.source.functions index ≡ Some own)
    × (slice_get i.flat.entries index ≡ Some entry)
    × BeginsAt i entry [] (start_locals own args)

-- before the call of an import that the module exports, or at the start of a function of the module
abbrev pub BeginsAs : Bool → Suspended → ℕ → List ℕ → Type 0
BeginsAs true i f args = BeginsAt i (2 * f) (reverse (map value.I64 args)) []
BeginsAs false i f args = BeginsIn i (f - length i.source.imports) (map value.I64 args)

-- the instance is at the start of a call of the function with these arguments
abbrev pub Begins : Suspended → ℕ → List ℕ → Type 0
Begins i f args = BeginsAs (is_import i.source f) i f args

abbrev pub Able : CallPhase → Suspended → Type 0
Able (phase.Fresh f n) i =
    Typed i.source × IsCompiled i.source i.flat × ((export : List ℕ) × (start_of i.source export n ≡ Ready f i.store))
    × Begins i f (replicate n 0)
Able phase.Ready i = (go : Meter → Run) × ((b : Meter) → Goes i.source i.flat (standing i b) (go b))
Able (phase.Waiting r) i = (0 < length i.operands) × ((on : (ℕ → List ℕ → Meter → Run)) × GoesOnWith r i on)
Able phase.Over i = Unit {0}

-- In its phase, the instance can be started or can continue with some run, or its call is over.
abbrev pub IsAble : Suspended → Type 0
IsAble i = Able i.phase i
