use Rattle.std.proofs.lemmas.Result.{err_from_is_err_and}
use Rattle.command_io.proofs.Saying.{prefix_first, said_behind}
use Rattle.command_io.proofs.printing.say_two.Goals as goal

pub returns-in_err-say_part-clause-said : goal.returns-in_err-say_part-clause-said
returns-in_err-say_part-clause-said g c =
    let p = err_from_is_err_and c.from_residual.result c.from_residual.ensures.1 in
    rw p.1 (prefix_first _ c.args.after.now _ _ c.in_err-say_part.ensures.said)

pub returns-clause-said : goal.returns-clause-said
returns-clause-said g c = said_behind _ _ _ _ _ c.say_part-2.result c.in_ok-say_part.ensures.said c.say_part-2.ensures.said
