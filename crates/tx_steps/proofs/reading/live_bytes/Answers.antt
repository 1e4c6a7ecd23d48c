use Rattle.ledger_spec.specs.LedgerMap.{find}
use Rattle.entry_lookup.specs.Found.{kept_of}
use Rattle.tx_steps.proofs.Adding.{live_is, size_is}
use Rattle.tx_steps.proofs.reading.live_bytes.Goals as goal

pub returns-else-found-n : goal.returns-else-found-n
returns-else-found-n g c =
    let kept = kept_of c.in-Some.found in
    live_is c.args.n c.size.result kept (find (g.G.Ground.map c.args.ground.now) c.args.key.now) c.in-Some.ensures.found c.if-found-n.false
    (size_is kept.entry c.size.result c.size.ensures c.in-Some.ensures.kept.fits)
