use Rattle.wasm_read.proofs.Names.{name_found, name_refused}
use Rattle.wasm_read.proofs.input.Input.name.Goals as goal

pub returns-in-Ok : goal.returns-in-Ok
returns-in-Ok c = name_found _ _ _ c.in_ok-bytes.ensures c.in-Ok.ensures.cases.1

pub returns-in-Err : goal.returns-in-Err
returns-in-Err c = name_refused _ _ _ c.in_ok-bytes.ensures c.in-Err.ensures.cases.0
