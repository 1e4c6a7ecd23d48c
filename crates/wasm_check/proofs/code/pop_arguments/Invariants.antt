use Rattle.std.proofs.Common.{◌≡◌, ◌≤◌, length, take}
use Rattle.std.specs.Prelude.{reverse}
use Rattle.module_spec.specs.Check.{pops}
use Rattle.wasm_check.proofs.code.pop_arguments.Given as goal

abbrev pub invariant-loop-left : goal.invariant-loop-left
invariant-loop-left l = (l.left ≤ length l.types) × (pops (reverse l.fn.types) l.fn.stack ≡ pops (reverse (take l.left l.types)) l.stack)

abbrev pub decreases-loop-left : goal.decreases-loop-left
decreases-loop-left l = l.left
