use Rattle.std.proofs.lemmas.Result.{err_from_is_err_and}
use Rattle.clap.specs.Matches.{found_of}
use Rattle.clap.specs.Walk.{rows_of}
use Rattle.why_words.proofs.Parsing.{map_same, no_fault, asked_at_ok, read_ok, read_err, read_fault}
use Rattle.why_words.proofs.words.request_of.Goals as goal

pub returns-in_err-request_from-in-Ok : goal.returns-in_err-request_from-in-Ok
returns-in_err-request_from-in-Ok c =
    let p = err_from_is_err_and c.from_residual-in_err-request_from-in-Ok.result c.from_residual-in_err-request_from-in-Ok.ensures.1 in
    let words = c.args.words.now in
    let none = no_fault _ words _ c.in_ok-command.ensures (map_same words) c.in-Ok.ensures.kinds in
    let asked = asked_at_ok _ words _ c.in-Ok.matches c.in_ok-command.ensures (map_same words) none c.in-Ok.ensures.matches in
    rw (p.1, p.2) (read_err words (rows_of (found_of c.in-Ok.matches)) c.in_err-request_from-in-Ok.field-0.0 none asked c.in_err-request_from-in-Ok.ensures)

pub returns-in_ok-request_from-in-Ok : goal.returns-in_ok-request_from-in-Ok
returns-in_ok-request_from-in-Ok c =
    let words = c.args.words.now in
    let none = no_fault _ words _ c.in_ok-command.ensures (map_same words) c.in-Ok.ensures.kinds in
    let asked = asked_at_ok _ words _ c.in-Ok.matches c.in_ok-command.ensures (map_same words) none c.in-Ok.ensures.matches in
    read_ok words (rows_of (found_of c.in-Ok.matches)) c.in_ok-request_from-in-Ok.field-0 asked c.in_ok-request_from-in-Ok.ensures

pub returns-in-Err : goal.returns-in-Err
returns-in-Err c =
    read_fault _ c.args.words.now _ c.in-Err.error c.refusal.result c.in_ok-command.ensures (map_same c.args.words.now) c.refusal.ensures c.in-Err.ensures.kinds
