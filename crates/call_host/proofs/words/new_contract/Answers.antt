use Rattle.std.specs.Option.{option_map}
use Rattle.call_host.specs.Creations.{args_of}
use Rattle.call_host.proofs.Arguments.{code_bad, salt_bad, both_good}
use Rattle.call_host.proofs.words.new_contract.Goals as goal

pub returns-in-Err-clause-takes : goal.returns-in-Err-clause-takes
returns-in-Err-clause-takes c env opener =
    code_bad c.in-Err.error env opener c.args.deployer c.args.code.now c.args.salt.now (option_map args_of c.args.args) c.in-Err.ensures.does

pub returns-in-Err-hash_of-clause-takes : goal.returns-in-Err-hash_of-clause-takes
returns-in-Err-hash_of-clause-takes c env opener =
    salt_bad c.in-Err-hash_of.error env opener c.args.deployer c.args.code.now c.args.salt.now c.in-Ok.code (option_map args_of c.args.args) c.in-Ok.ensures.does c.in-Err-hash_of.ensures.does

pub returns-in-Ok-hash_of-clause-takes : goal.returns-in-Ok-hash_of-clause-takes
returns-in-Ok-hash_of-clause-takes c env opener =
    both_good env opener c.args.deployer c.args.code.now c.args.salt.now c.in-Ok.code c.in-Ok-hash_of.salt c.args.args c.in-Ok.ensures.does c.in-Ok-hash_of.ensures.does
