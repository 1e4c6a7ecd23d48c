use Rattle.value_types.specs.declared.address.ScAddress.TheVariants.{Contract}
use Rattle.auth_parts.proofs.Steps.{account_asked, address_asked}
use Rattle.auth_parts.proofs.asking.ask_address.Goals as goal

pub returns-in-Account-clause-does : goal.returns-in-Account-clause-does
returns-in-Account-clause-does c env same =
    account_asked c.ask_account.result env c.args.verdicts.now c.args.payload c.args.signer.now c.args.root.now c.args.signer.now.address c.in-Account.account c.args.budget.now c.in-Account.is same c.ask_account.ensures.does

pub returns-in-Contract-clause-does : goal.returns-in-Contract-clause-does
returns-in-Contract-clause-does c env same =
    address_asked c.ask_contract.result env c.args.payload c.args.signer.now c.args.root.now c.args.signer.now.address (Contract c.in-Contract.contract) c.args.budget.now c.ask_contract.new.budget c.in-Contract.is (c.ask_contract.ensures.does env)
