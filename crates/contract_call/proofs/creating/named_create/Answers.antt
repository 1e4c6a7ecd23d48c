use Rattle.std.proofs.Common.{List, sym, ap, ◌∙◌}
use Rattle.value_types.specs.declared.value.ScVal.{ScVal}
use Rattle.value_types.specs.declared.executable.Executable.TheVariants.{Wasm}
use Rattle.invoke_types.specs.declared.preimage.Preimage.TheVariants.{FromAddress}
use Rattle.invoke_types.specs.declared.function.Function.{Function}
use Rattle.invoke_types.specs.declared.function.Function.TheVariants as functions
use Rattle.std.specs.Option.{option_map}
use Rattle.value_types.specs.Views.{datums}
use Rattle.call_spec.specs.Creating.{function_of}
use Rattle.host_ledger.proofs.Lemmas.{all_same}
use Rattle.contract_call.proofs.creating.named_create.Goals as goal

pub returns-in-Some : goal.returns-in-Some
returns-in-Some c =
    let at : List ScVal → Function = λ args.
    functions.CreateContractV2 (record { preimage = FromAddress c.args.deployer c.args.salt; executable = Wasm c.args.code; constructor_args = args }) in
    ap at (sym (all_same c.in-Some.args)) ∙ ap (λ args. function_of (record { deployer = c.args.deployer; code = c.args.code; salt = c.args.salt; args = option_map datums args })) (sym c.in-Some.is)
