use Rattle.std.proofs.Common.{List, Option, ap, ◌∙◌}
use Rattle.value_types.specs.Datum.{Datum}
use Rattle.call_spec.specs.Creating.{function_of}
use Rattle.contract_call.proofs.Given.{given_args}
use Rattle.contract_call.proofs.creating.create_function.Goals as goal

pub returns-in-Ok-clause-ok : goal.returns-in-Ok-clause-ok
returns-in-Ok-clause-ok c =
    let contract = c.args.contract.now in
    c.named_create.ensures
    ∙ ap (λ (args : Option (List Datum)). function_of (record { deployer = contract.deployer; code = contract.code; salt = contract.salt; args = args })) (given_args c.in-Ok.args contract.args c.in-Ok.ensures.ok)
