use Rattle.wasm_read.proofs.CodeSteps.{gives_all}
use Rattle.wasm_read.proofs.code.instructions.Goals as goal

pub returns : goal.returns
returns c = gives_all 1000 c.args.input.now c.code.new.input c.code.result c.code.ensures
