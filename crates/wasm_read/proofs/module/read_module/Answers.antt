use Rattle.wasm_read.proofs.Exact.{found, only}
use Rattle.wasm_read.proofs.module.read_module.Goals as goal

pub returns-clause-found : goal.returns-clause-found
returns-clause-found c = found c.args.bytes.now c.whole_module.result c.whole_module.ensures

pub returns-clause-only : goal.returns-clause-only
returns-clause-only c = only c.args.bytes.now c.whole_module.result c.whole_module.ensures
