use Rattle.host_ledger.proofs.Naming.{id_runs, id_refuses, plain_address}
use Rattle.host_ledger.proofs.ids.id_of_words.Goals as goal

pub paid_id-requires : goal.paid_id-requires
paid_id-requires c = plain_address c.args.values.now c.args.a c.in_ok-deployer.deployer c.in_ok-deployer.ensures.means

pub returns-in-Ok-clause-does : goal.returns-in-Ok-clause-does
returns-in-Ok-clause-does c =
    id_runs c.paid_id.result c.args.values.now c.args.network.now c.args.a c.args.b c.in_ok-deployer.deployer c.in_ok-salt.salt.now c.in-Ok.salt c.args.budget.now c.enter.new.budget c.paid_id.new.budget c.in_ok-deployer.ensures.means c.in_ok-salt.ensures.means
    (c.in_ok-enter.ensures c.args.values.now) c.in-Ok.ensures.0 c.in-Ok.ensures.1 c.paid_id.ensures.does

pub returns-in-Err-clause-does : goal.returns-in-Err-clause-does
returns-in-Err-clause-does c env n =
    id_refuses c.in-Err.error c.args.values.now c.args.a c.args.b c.in_ok-deployer.deployer c.in_ok-salt.salt.now c.args.budget.now c.enter.new.budget c.in_ok-deployer.ensures.means c.in_ok-salt.ensures.means (c.in_ok-enter.ensures c.args.values.now)
    c.in-Err.ensures.0 c.in-Err.ensures.1 env
