use Rattle.std.proofs.lemmas.Result.{err_from_is_err_and}
use Rattle.why_top.proofs.Holding.{explained, target_refused, verdicts_refused}
use Rattle.why_top.proofs.over_files.explain_files.Goals as goal

pub returns-in_err-verdicts-clause-refused : goal.returns-in_err-verdicts-clause-refused
returns-in_err-verdicts-clause-refused g c =
    let p = err_from_is_err_and c.from_residual-in_err-verdicts.result c.from_residual-in_err-verdicts.ensures.1 in
    let ledger = c.in_ok-ledger.ledger in
    rw (p.1, p.2) (verdicts_refused c.args.request.now ledger.header ledger.entries c.in_err-verdicts.field-0.0 (g.F.Files.contents c.args.files.now) _
    c.in_ok-ledger.ensures.same c.in_ok-ledger.ensures.held c.in_err-verdicts.ensures.refused)

pub returns-clause-refused : goal.returns-clause-refused
returns-clause-refused g c =
    let ledger = c.in_ok-ledger.ledger in
    target_refused c.args.request.now ledger.header ledger.entries c.in_ok-verdicts.verdicts c.explain_target.result (g.F.Files.contents c.args.files.now) _ _
    c.in_ok-ledger.ensures.same c.in_ok-verdicts.ensures.same c.in_ok-ledger.ensures.held c.in_ok-verdicts.ensures.held c.explain_target.ensures.refused

pub returns-clause-explains : goal.returns-clause-explains
returns-clause-explains g c =
    let ledger = c.in_ok-ledger.ledger in
    explained c.args.request.now ledger.header ledger.entries c.in_ok-verdicts.verdicts c.explain_target.result (g.F.Files.contents c.args.files.now) _ _
    c.in_ok-ledger.ensures.same c.in_ok-verdicts.ensures.same c.in_ok-ledger.ensures.held c.in_ok-verdicts.ensures.held c.explain_target.ensures.explains
