use Rattle.why_top.proofs.Holding.{placed}
use Rattle.why_top.proofs.over_files.of_place.Goals as goal

pub returns-clause-explains : goal.returns-clause-explains
returns-clause-explains g c =
    placed c.args.request.now c.args.ledger.header c.args.ledger.entries c.args.verdicts.now c.args.place c.in_ok-set.set c.explain_place.result (g.F.Files.contents c.args.files.now)
    c.in_ok-set.ensures.held c.explain_place.ensures.free c.explain_place.ensures.there c.explain_place.ensures.explains c.explain_place.ensures.last
