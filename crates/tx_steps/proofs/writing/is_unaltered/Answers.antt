use Rattle.tx_steps.proofs.Adding.{unaltered_is}
use Rattle.tx_steps.proofs.writing.is_unaltered.Goals as goal

pub returns-then-n-found : goal.returns-then-n-found
returns-then-n-found c = unaltered_is c.args.n c.in-Some.found c.args.kept.now c.args.found c.eq.result c.in-Some.is c.if-n-found.true c.eq.ensures.eq
