use Rattle.ledger_spec.specs.LedgerMap.{find}
use Rattle.declared_bytes.proofs.Adding.{unaltered_is}
use Rattle.declared_bytes.proofs.written.is_unaltered.Goals as goal

pub returns-then-n-found : goal.returns-then-n-found
returns-then-n-found g c =
    unaltered_is c.args.n c.in-Some.found c.args.kept.now (find (g.G.Ground.map c.args.ground.now) c.args.key.now) c.eq.result
    c.in-Some.ensures.found c.if-n-found.true c.eq.ensures.eq
