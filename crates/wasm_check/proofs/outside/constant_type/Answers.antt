use Rattle.std.proofs.Common.{◌∙◌, sym, ap}
use Rattle.wasm_spec.specs.Typing.{constant_type}
use Rattle.wasm_check.proofs.Constants.{not_one}
use Rattle.wasm_check.proofs.outside.constant_type.Goals as goal

pub returns-then-instrs-ne1 : goal.returns-then-instrs-ne1
returns-then-instrs-ne1 c = sym (ap (constant_type c.args.globals.now) (sym c.as_slice-instrs.ensures) ∙ not_one c.args.globals.now c.as_slice-instrs.result.now c.if-instrs-ne1.true)
