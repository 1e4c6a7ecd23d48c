use Rattle.std.proofs.Common.{◌∙◌, refl}
use Rattle.wasm_machine.proofs.CallLaws.{same_types-by}
use Rattle.wasm_machine.proofs.calls.same_types.Goals as goal

pub returns : goal.returns
returns c = c.eq.ensures ∙ same_types-by _ refl refl refl refl c.args.left.now c.args.right.now
