use Rattle.std.proofs.Common.{◌∙◌, sym, ap}
use Rattle.wasm_spec.specs.Instances.{constant_value}
use Rattle.wasm_run.proofs.Expressions.{not_one}
use Rattle.wasm_run.proofs.constants.constant_value.Goals as goal

pub returns-then-instrs-ne1 : goal.returns-then-instrs-ne1
returns-then-instrs-ne1 c = sym (ap (constant_value c.args.globals.now) (sym c.as_slice-instrs.ensures) ∙ not_one c.args.globals.now c.as_slice-instrs.result.now c.if-instrs-ne1.true)
