use Rattle.std.proofs.lemmas.Result.{err_from_is_err_and}
use Rattle.command_io.proofs.Saying.{prefix_first, said_behind}
use Rattle.command_io.proofs.printing.say_parts.Goals as goal

pub returns-in_err-say_two-clause-said : goal.returns-in_err-say_two-clause-said
returns-in_err-say_two-clause-said g c =
    let p = err_from_is_err_and c.from_residual.result c.from_residual.ensures.1 in
    rw p.1 (prefix_first _ c.args.after.now _ _ c.in_err-say_two.ensures.said)

pub returns-clause-said : goal.returns-clause-said
returns-clause-said g c = said_behind _ _ _ _ _ c.say_part.result c.in_ok-say_two.ensures.said c.say_part.ensures.said
