use Rattle.tx_steps.proofs.ByKey.{longer_more}
use Rattle.tx_steps.proofs.changes.extensions_at.Goals as goal

pub loop-key-preserved : goal.loop-key-preserved
loop-key-preserved g c =
    longer_more (g.G.Ground.map c.args.ground.now) c.args.changed.now.entries c.args.keys.now c.loop-key.key-index c.key-item.result c.loop-key-test.true c.key-item.is
    c.loop-key.extensions.items c.push_extension.new.extensions.items c.in_ok-extension.extension c.loop-key.invariant c.in_ok-extension.ensures c.in_ok-push_extension.ensures
