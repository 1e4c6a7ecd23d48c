-- Parts of a host function within its XDR format are within theirs.
use Rattle.std.proofs.Common.{◌<◌, ◌^◌, ℕ, List, All, length}
use Rattle.std.proofs.lemmas.List.Elements.{All-from_recursion}
use Rattle.xdr_spec.specs.Format.{list, opaque}
use Rattle.value_types.specs.Formats.{scval_format}
use Rattle.invoke_types.specs.Arguments.{invoke_format, create_v2_format}
use Rattle.invoke_types.specs.HostFunction.{host_function_format}
use Rattle.invoke_types.specs.declared.arguments.InvokeContractArgs.{InvokeContractArgs}
use Rattle.invoke_types.specs.declared.arguments.CreateContractArgsV2.{CreateContractArgsV2}
use Rattle.invoke_types.specs.declared.host_function.HostFunction.TheVariants as functions

-- the arguments of a call
pub call_values : (args : InvokeContractArgs) → host_function_format.fits (functions.InvokeContract args) → All scval_format.fits args.args
unfolding host_function_format invoke_format list
call_values args h = All-from_recursion scval_format.fits args.args h.1.1.2

-- the arguments of a constructor
pub constructor_values : (args : CreateContractArgsV2) → host_function_format.fits (functions.CreateContractV2 args) → All scval_format.fits args.constructor_args
unfolding host_function_format create_v2_format list
constructor_values args h = All-from_recursion scval_format.fits args.constructor_args h.1.1.2

-- a code that is uploaded
pub code_size : (code : List ℕ) → host_function_format.fits (functions.UploadContractWasm code) → length code < 2 ^ 32
unfolding host_function_format opaque
code_size code h = h.1
