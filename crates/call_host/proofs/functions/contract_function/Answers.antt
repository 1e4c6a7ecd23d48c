use Rattle.std.proofs.Common.{ℕ, List, ap, ◌∙◌}
use Rattle.value_types.specs.declared.value.ScVal.{ScVal}
use Rattle.value_types.specs.declared.address.ScAddress.TheVariants.{Contract}
use Rattle.invoke_types.specs.declared.function.Function.{Function}
use Rattle.invoke_types.specs.declared.function.Function.TheVariants.{ContractFn}
use Rattle.call_host.proofs.functions.contract_function.Goals as goal

pub returns : goal.returns
returns c =
    let at : List ℕ → List ScVal → Function = λ name args. ContractFn (record { contract = Contract c.args.contract; function = name; args = args }) in
    ap (λ name. at name c.args.args) (c.from_blob-name.ensures ∙ c.from_vec-content.ensures)
