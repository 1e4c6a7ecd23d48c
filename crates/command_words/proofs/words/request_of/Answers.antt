use Rattle.command_words.proofs.Parsing.{map_same, asked_at_ok, asked_at_fault}
use Rattle.command_words.proofs.words.request_of.Goals as goal

pub returns-in-Ok-clause-request : goal.returns-in-Ok-clause-request
returns-in-Ok-clause-request c =
    let parse = c.in-Ok.ensures in
    let asked = asked_at_ok _ c.args.words.now _ c.in-Ok.matches c.in_ok-command.ensures (map_same c.args.words.now) parse.kinds parse.matches in
    rw asked c.request_from.ensures.request

pub returns-in-Err-clause-request : goal.returns-in-Err-clause-request
returns-in-Err-clause-request c = asked_at_fault _ c.args.words.now _ c.in-Err.error c.refusal.result c.in_ok-command.ensures (map_same c.args.words.now) c.refusal.ensures c.in-Err.ensures.kinds
