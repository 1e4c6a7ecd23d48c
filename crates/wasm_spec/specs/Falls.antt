-- A proof that the type Body cites as a ghost member: the instructions inside a block weigh less than the code around it.
use Rattle.std.specs.Prelude.{◌≤◌, List, [], ◌∷◌}
use Rattle.std.proofs.Common.{arith}
use denote.Param.Weighed.{most}
use Rattle.wasm_spec.specs.Code.{size_of}
use Rattle.wasm_spec.specs.Views.{code_of}
use Rattle.wasm_spec.specs.declared.instructions.Instr.{Instr}
use Rattle.wasm_spec.specs.declared.instructions.Instr.TheVariants as instr
use Rattle.wasm_spec.specs.declared.instructions.Body.TheInside as body
use Rattle.wasm_spec.specs.declared.instructions.Body.TheDeep.{deep-Instr, deep-Body}

deep_all : (is : List Instr) → most deep-Instr is ≤ size_of (code_of is)
deep_all [] = omega arith
deep_all (instr.Plain p ∷ is) = omega (arith, deep_all is)
deep_all (instr.Control k ∷ is) = omega (arith, deep_all is)
deep_all (instr.Block t body ∷ is) = omega (arith, deep_all is)
deep_all (instr.Loop t body ∷ is) = omega (arith, deep_all is)
deep_all (instr.If t taken other ∷ is) = omega (arith, deep_all is)

pub body_falls : (a : body.Inside) → Unit {0} → deep-Body a ≤ size_of (code_of a.items.items)
body_falls a _ = omega (arith, deep_all a.items.items)
