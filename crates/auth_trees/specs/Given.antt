-- What a function is given (own).
use Rattle.std.specs.Prelude.{List, []}
use Rattle.invoke_types.specs.declared.function.Function.{Function}
use Rattle.invoke_types.specs.declared.function.Function.TheVariants.{ContractFn, CreateContract, CreateContractV2}
use Rattle.value_types.specs.declared.value.ScVal.{ScVal}

-- the arguments of a call or of a constructor
abbrev pub arguments : Function → List ScVal
arguments (ContractFn call) = call.args
arguments (CreateContract create) = []
arguments (CreateContractV2 create) = create.constructor_args
