-- The program's instructions as the tree that contracts see (core section 2.4).
use Rattle.std.specs.Prelude.{List, [], ◌∷◌}
use Rattle.wasm_spec.specs.Code.{Code, end, plain, control, block, loop, choose}
use Rattle.wasm_spec.specs.declared.instructions.Instr.{Instr}
use Rattle.wasm_spec.specs.declared.instructions.Instr.TheVariants as instr

-- an instruction followed by code
abbrev pub before : Instr → Code → Code
before (instr.Plain p) rest = plain p rest
before (instr.Control k) rest = control k rest
before (instr.Block t body) rest = block t body rest
before (instr.Loop t body) rest = loop t body rest
before (instr.If t taken other) rest = choose t taken other rest

abbrev pub code_of : List Instr → Code
code_of [] = end
code_of (i ∷ is) = before i (code_of is)
