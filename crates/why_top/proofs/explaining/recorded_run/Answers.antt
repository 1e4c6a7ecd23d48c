use Rattle.std.proofs.Common.{IfOk, subst}
use Rattle.tx_xdr.specs.Envelope.{transaction_in}
use Rattle.apply_spec.specs.Simulated.{Simulated}
use Rattle.tx_apply.specs.Watching.{accesses_of}
use Rattle.why_top.specs.Explained.{ran_of}
use Rattle.why_top.specs.Runs.{IsRunOf}
use Rattle.why_top.proofs.Seen.{fresh, shows_run}
use Rattle.why_top.proofs.explaining.recorded_run.Goals as goal

pub simulate_watched-requires-clause-fresh : goal.simulate_watched-requires-clause-fresh
simulate_watched-requires-clause-fresh g c = fresh c.args.trace c.requires.fresh

pub counted-requires-clause-trace : goal.counted-requires-clause-trace
counted-requires-clause-trace g c =
    shows_run _ (accesses_of c.args.header.now c.args.verdicts.now (g.G.Ground.map c.args.ground.now)
    (transaction_in c.before.before.in_ok-simulated.simulated.envelope)) c.in_ok-simulated.ensures.seen

pub returns : goal.returns
returns g c =
    subst (λ (s : Simulated). IfOk c.counted.result (λ run. IsRunOf run c.args.header.now c.args.verdicts.now (g.G.Ground.map c.args.ground.now) (ran_of s)))
    c.in_ok-simulated.ensures.simulated c.counted.ensures
