use Rattle.tx_steps.proofs.ByKey.{unchanged_at}
use Rattle.tx_steps.proofs.changes.extension.Goals as goal

pub returns-in_default : goal.returns-in_default
returns-in_default g c = unchanged_at (g.G.Ground.map c.args.ground.now) c.args.changed.now.entries c.args.key.now c.in_default.ensures.value
