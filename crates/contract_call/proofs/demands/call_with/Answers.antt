use Rattle.std.proofs.Common.{ℕ, List, sym, ap, ◌∙◌}
use Rattle.value_types.specs.declared.value.ScVal.{ScVal}
use Rattle.value_types.specs.declared.address.ScAddress.TheVariants as addresses
use Rattle.invoke_types.specs.declared.function.Function.{Function}
use Rattle.invoke_types.specs.declared.function.Function.TheVariants as functions
use Rattle.host_ledger.specs.Worlds.{called_name}
use Rattle.host_ledger.proofs.Lemmas.{all_same}
use Rattle.contract_call.proofs.demands.call_with.Goals as goal

pub returns-in-Ok-clause-ok : goal.returns-in-Ok-clause-ok
returns-in-Ok-clause-ok g c =
    let frame = c.args.host.now.ledger.frame in
    let at : List ℕ → List ScVal → Function = λ name args. functions.ContractFn (record { contract = addresses.Contract frame.contract; function = name; args = args }) in
    c.contract_function.ensures ∙ ap (λ name. at name c.args.args) (c.in-Ok.ensures.ok ∙ c.name_of.ensures) ∙ ap (at (called_name frame.function)) (sym (all_same c.args.args))
