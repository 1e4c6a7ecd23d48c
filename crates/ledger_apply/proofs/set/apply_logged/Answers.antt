use Rattle.std.proofs.Common.{false, refl}
use Rattle.change_log.proofs.Lemmas.{log_back}
use Rattle.ledger_apply.proofs.set.apply_logged.Goals as goal

pub returns-clause-log : goal.returns-clause-log
returns-clause-log g c = c.in_ok-made.ensures.log.over refl

pub returns-clause-forwards : goal.returns-clause-forwards
returns-clause-forwards g c = c.in_ok-made.ensures.log.forwards refl

pub returns-clause-backwards : goal.returns-clause-backwards
returns-clause-backwards g c =
    let made = c.in_ok-made.made in
    let ledger = c.args.ledger in
    log_back false made.1 ledger.header made.0.ledger.header ledger.entries made.0.ledger.entries (c.in_ok-made.ensures.log.forwards refl)
