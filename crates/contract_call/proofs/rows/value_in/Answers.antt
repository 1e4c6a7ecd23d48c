use Rattle.std.proofs.Common.{ℕ, Result, Ok, refl}
use Rattle.host_spec.specs.declared.error.ValueErr.{ValueErr}
use Rattle.contract_call.proofs.Valuing.{values_in, values_stop}
use Rattle.contract_call.proofs.rows.value_in.Goals as goal

pub returns-in-Ok-clause-does : goal.returns-in-Ok-clause-does
returns-in-Ok-clause-does g c =
    let r : Result ℕ ValueErr = Ok c.in-Ok.word in
    values_in c.args.import c.args.words.now r c.args.memory.now c.call_function.new.memory c.args.ledger.now _ refl c.requires.call.over_values c.in-Ok.ensures.does

pub returns-in-Err-clause-does : goal.returns-in-Err-clause-does
returns-in-Err-clause-does g c =
    values_stop c.in-Err.error c.from.result c.args.import c.args.words.now c.args.memory.now c.call_function.new.memory c.args.ledger.now _ refl c.requires.call.over_values c.in-Err.ensures.does c.from.ensures
