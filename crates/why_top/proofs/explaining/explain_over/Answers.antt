use Rattle.why_top.specs.Explained.{ran_by}
use Rattle.why_top.proofs.Ran.{ends_as_ran, ends_in_result}
use Rattle.why_top.proofs.explaining.explain_over.Goals as goal

pub returns-clause-explains : goal.returns-clause-explains
returns-clause-explains g c =
    let entries = g.G.Ground.map c.args.ground.now in
    ends_as_ran c.args.form.json c.in_ok-lines.lines.items c.in_ok-kept.kept c.args.header.now c.args.verdicts.now entries
    (ran_by c.args.form.recorded c.args.header.now c.args.verdicts.now entries c.args.envelope.now) c.in_ok-kept.ensures c.in_ok-lines.ensures

pub returns-clause-last : goal.returns-clause-last
returns-clause-last g c =
    let entries = g.G.Ground.map c.args.ground.now in
    let ran = ran_by c.args.form.recorded c.args.header.now c.args.verdicts.now entries c.args.envelope.now in
    ends_in_result c.args.form.json c.in_ok-lines.lines.items _ ran.used ran.effect.result.result.outcome
    (ends_as_ran c.args.form.json c.in_ok-lines.lines.items c.in_ok-kept.kept c.args.header.now c.args.verdicts.now entries ran c.in_ok-kept.ensures c.in_ok-lines.ensures)
