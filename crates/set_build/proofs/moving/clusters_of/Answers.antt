use Rattle.std.proofs.lemmas.Iterator.Adapters.{YieldsList-from_vec}
use Rattle.std.proofs.lemmas.Iterator.Consumers.{YieldsList-turn, YieldsList-end}
use Rattle.set_build.proofs.Moves.{clusters_more, clusters_all}
use Rattle.set_build.proofs.moving.clusters_of.Goals as goal

pub loop-envelopes-preserved : goal.loop-envelopes-preserved
loop-envelopes-preserved c =
    let t = YieldsList-turn (YieldsList-from_vec c.args.last.items (cc) (cc)) c.loop-envelopes.yielded c.loop-envelopes.envelopes-iterator c.loop-envelopes.yielded_by _ c.next.new.self c.in-Some.envelopes c.in-Some.is c.next.ensures.steps in
    clusters_more (λ v. v.items) c.loop-envelopes.clusters.items c.push.new.self.items c.args.last.items c.loop-envelopes.yielded c.in-Some.envelopes (record { envelopes = c.from_vec.result }) c.loop-envelopes.invariant t.0 t.1
    c.from_vec.ensures c.in_ok-push.ensures.items

pub returns : goal.returns
returns c =
    let t = YieldsList-end (YieldsList-from_vec c.args.last.items (cc) (cc)) c.loop-envelopes.yielded c.loop-envelopes.envelopes-iterator c.loop-envelopes.yielded_by _ c.next.new.self c.in-None.is c.next.ensures.steps in
    clusters_all (λ v. v.items) c.loop-envelopes.clusters.items c.args.last.items c.loop-envelopes.yielded c.loop-envelopes.invariant t.1
