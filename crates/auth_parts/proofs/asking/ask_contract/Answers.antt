use Rattle.std.proofs.Common.{Ok, Err, refl}
use Rattle.value_types.specs.Views.{datums}
use Rattle.call_spec.specs.Asking.{check_args}
use Rattle.auth_parts.specs.declared.asking.Asked.TheVariants.{ByContract}
use Rattle.auth_parts.proofs.Steps.{contract_asked, contract_refused, contract_args, lent_enters}
use Rattle.auth_parts.proofs.asking.ask_contract.Goals as goal

pub returns-in-Ok-clause-does : goal.returns-in-Ok-clause-does
returns-in-Ok-clause-does c env =
    let ds = datums c.in_ok-args.args.items in
    contract_args c.args.contract (Ok (ByContract c.args.contract c.in_ok-args.args)) ds (check_args c.args.payload c.args.signer.now c.args.root.now) c.args.budget.now c.enter_all.new.budget c.in_ok-args.ensures.args
    (contract_asked tt c.args.contract (ByContract c.args.contract c.in_ok-args.args) ds c.args.budget.now c.enter_all.new.budget refl
    (lent_enters (Ok tt) c.as_slice.result.now c.in_ok-args.args.items c.args.budget.now c.enter_all.new.budget c.as_slice.ensures.value c.in-Ok.ensures.does))

pub returns-in-Err-clause-does : goal.returns-in-Err-clause-does
returns-in-Err-clause-does c env =
    let ds = datums c.in_ok-args.args.items in
    contract_args c.args.contract (Err c.denied.result) ds (check_args c.args.payload c.args.signer.now c.args.root.now) c.args.budget.now c.enter_all.new.budget c.in_ok-args.ensures.args
    (contract_refused c.in-Err.error c.denied.result c.args.contract ds c.args.budget.now c.enter_all.new.budget c.denied.ensures
    (lent_enters (Err c.in-Err.error) c.as_slice.result.now c.in_ok-args.args.items c.args.budget.now c.enter_all.new.budget c.as_slice.ensures.value c.in-Err.ensures.does))
