use Rattle.std.proofs.Common.{arith}
use Rattle.std.proofs.lemmas.Grind.{common_steps}
use Rattle.spec_apply.proofs.Moves.{still_agrees}
use Rattle.spec_apply.proofs.moved.agrees.Goals as goal

pub returns-then-are_still : goal.returns-then-are_still
returns-then-are_still c = λ opening entries are.
    let e = still_agrees opening entries c.args.moved.now are c.args.footprint.now c.requires in
    grind (arith, common_steps, e)

pub returns-else-are_still : goal.returns-else-are_still
returns-else-are_still c = λ opening entries are.
    let e = still_agrees opening entries c.args.moved.now are c.args.footprint.now c.requires in
    grind (arith, common_steps, e)
