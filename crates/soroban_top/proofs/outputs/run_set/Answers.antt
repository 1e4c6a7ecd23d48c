use Rattle.command_io.specs.Seen.{seen}
use Rattle.soroban_top.proofs.Logging.{kept_if, none_if, not_both, set_plays}
use Rattle.soroban_top.proofs.outputs.run_set.Goals as goal

pub returns-then-run-clause-log : goal.returns-then-run-clause-log
returns-then-run-clause-log g c = kept_if c.args.run.now.logs _ _ c.if-run.true c.in_ok-logged.ensures.log

pub returns-then-run-clause-plays : goal.returns-then-run-clause-plays
returns-then-run-clause-plays g c = λ e.
    let made = c.in_ok-logged.logged in
    let known = c.in_ok-logged.ensures in
    let run = c.args.run.now in
    set_plays (seen c.args.ledger) made.applied.ledger.header made.applied.ledger.entries run.verdicts.now c.args.set.now run.close_time
    made.log known.log known.header known.entries known.log_spelled known.map known.forwards known.backwards

pub returns-clause-log : goal.returns-clause-log
returns-clause-log g c = none_if c.args.run.now.logs _ c.if-run.false

pub returns-clause-plays : goal.returns-clause-plays
returns-clause-plays g c = λ e. absurd (not_both c.args.run.now.logs e c.if-run.false)
