use Rattle.command_words.specs.Words.{asked_of}
use Rattle.soroban_top.proofs.Logging.{ends_known}
use Rattle.soroban_top.proofs.Present.{where_present}
use Rattle.soroban_top.proofs.soroban.Goals as goal

pub returns-clause-present : goal.returns-clause-present
returns-clause-present g c steady = where_present _ _ (asked_of c.args.words.now) (c.perform-outcome.ensures.steady steady)

pub returns-clause-left : goal.returns-clause-left
returns-clause-left g c =
    ends_known (asked_of c.args.words.now) _ _ c.perform-outcome.result _ _ _ c.perform-outcome.ensures.given c.perform-outcome.ensures.left
    c.finish.ensures.said c.perform-outcome.ensures.plays
