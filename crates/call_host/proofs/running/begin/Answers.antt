use Rattle.host_ledger.specs.Worlds.{called_args}
use Rattle.call_host.specs.Framed.{argument_words}
use Rattle.call_host.proofs.Beginning.{words_of}
use Rattle.call_host.proofs.Showing.{begun_in}
use Rattle.call_host.proofs.running.begin.Goals as goal

pub returns-clause-does : goal.returns-clause-does
returns-clause-does g c =
    begun_in c.args.host.now c.begin_in.new.ledger c.begin_in.result words_of (argument_words c.args.module.now.memories (called_args c.args.host.now.ledger.frame.function)) c.begin_in.ensures.stays c.begin_in.ensures.does
