-- The run of a frame's code as a run whose imports a host answers (core section 4.5.5).
use Rattle.std.specs.Prelude.{◌≡◌, ℕ}
use Rattle.value_types.specs.declared.error.ScError.TheVariants as errors
use Rattle.wasm_spec.specs.Runs.{Run}
use Rattle.wasm_spec.specs.Worlds.{Reply, Answers, Quits, Host, End, Returned, Trapped, Exhausted, Quit, Broken, interp}
use Rattle.call_spec.specs.Errors.{IMPOSSIBLE}
use Rattle.call_spec.specs.World.{World}
use Rattle.call_spec.specs.Acts.{Spent, Out, Good, Bad, Undeclared, fails}
use Rattle.call_spec.specs.Frames.{HostCalls, trap_code, metered, asking, returned, runs}

-- A host function's outcome as a reply. The host quits with every outcome but a returned word.
abbrev pub reply_of : Out ℕ → Reply World (Out ℕ)
reply_of (Good word w) = Answers w word w.frame.memory w.meter
reply_of (Bad e w) = Quits (Bad e w)
reply_of (Undeclared a w) = Quits (Undeclared a w)

abbrev pub as_host : HostCalls → Host World (Out ℕ)
as_host host f words memory meter w = reply_of (host f words (asking memory meter w))

-- the outcome of a run that starts in this world
abbrev pub outcome_of : World → End World (Out ℕ) → Out ℕ
outcome_of start (Returned operands meter w) = returned operands (metered meter w)
outcome_of start (Trapped kind meter w) = fails (errors.WasmVm (trap_code kind)) (metered meter w)
outcome_of start (Exhausted meter w) = Bad Spent (metered meter w)
outcome_of start (Quit out) = out
outcome_of start Broken = fails IMPOSSIBLE start

-- A run that is not broken has this outcome. By `NeverBreaks` of `wasm_run`, no call of an export of a valid module is broken.
abbrev pub FoldLaw : Type 0
FoldLaw = (host : HostCalls) (run : Run) (w : World) → (interp (as_host host) run w ≡ Broken → ⊥)
    → runs host run w ≡ outcome_of w (interp (as_host host) run w)
