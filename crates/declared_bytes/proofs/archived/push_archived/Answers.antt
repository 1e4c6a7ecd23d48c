use Rattle.declared_bytes.specs.Counted.{is_archived_at}
use Rattle.declared_bytes.proofs.Filtered.{looked_at}
use Rattle.declared_bytes.proofs.archived.push_archived.Goals as goal

pub loop-key-preserved : goal.loop-key-preserved
loop-key-preserved g c =
    looked_at (is_archived_at c.args.n (g.G.Ground.map c.args.ground.now)) c.args.archived.now.items c.args.keys.now c.loop-key.key-index c.key-item.result c.loop-key-test.true c.key-item.is
    c.loop-key.archived.items c.push_if_archived.new.archived.items c.loop-key.invariant c.in_ok-push_if_archived.ensures
