use Rattle.std.proofs.Common.{IfOk, subst}
use Rattle.tx_xdr.specs.Envelope.{transaction_in}
use Rattle.stage_runs.specs.Transactions.{Effect}
use Rattle.tx_apply.specs.Watching.{accesses_of}
use Rattle.why_top.specs.Explained.{ran_with}
use Rattle.why_top.specs.Runs.{IsRunOf}
use Rattle.why_top.proofs.Seen.{fresh, shows_run}
use Rattle.why_top.proofs.explaining.declared_run.Goals as goal

pub enforce_watched-requires-clause-fresh : goal.enforce_watched-requires-clause-fresh
enforce_watched-requires-clause-fresh g c = fresh c.args.trace c.requires.fresh

pub counted-requires-clause-trace : goal.counted-requires-clause-trace
counted-requires-clause-trace g c =
    shows_run _ (accesses_of c.args.header.now c.args.verdicts.now (g.G.Ground.map c.args.ground.now) (transaction_in c.args.envelope.now))
    c.in_ok-done.ensures.seen

pub returns : goal.returns
returns g c =
    subst (λ (e : Effect). IfOk c.counted.result (λ run. IsRunOf run c.args.header.now c.args.verdicts.now (g.G.Ground.map c.args.ground.now) (ran_with c.args.envelope.now e)))
    c.in_ok-done.ensures.done c.counted.ensures
