use Rattle.std.proofs.Common.{◌≡◌, ◌++◌, drop}
use Rattle.wasm_spec.specs.Instances.{first_values}
use Rattle.wasm_run.proofs.constants.first_values.Given as goal

abbrev pub invariant-loop-global : goal.invariant-loop-global
invariant-loop-global l = l.values.items ++ first_values (drop l.global-index l.globals) ≡ first_values l.globals
