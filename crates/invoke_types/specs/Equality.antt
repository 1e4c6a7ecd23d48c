-- How the logic stores authorised functions, for `is_same` (own).
use Rattle.std.specs.Coded.{Coded}
use Rattle.invoke_types.specs.declared.asset.Asset.{Asset}
use Rattle.invoke_types.specs.declared.preimage.Preimage.{Preimage}
use Rattle.invoke_types.specs.declared.arguments.InvokeContractArgs.{InvokeContractArgs}
use Rattle.invoke_types.specs.declared.arguments.CreateContractArgs.{CreateContractArgs}
use Rattle.invoke_types.specs.declared.arguments.CreateContractArgsV2.{CreateContractArgsV2}
use Rattle.invoke_types.specs.declared.function.Function.{Function}
use Rattle.invoke_types.specs.contracts.asset.Asset as asset
use Rattle.invoke_types.specs.contracts.preimage.Preimage as preimage
use Rattle.invoke_types.specs.contracts.arguments.InvokeContractArgs as invoke
use Rattle.invoke_types.specs.contracts.arguments.CreateContractArgs as create
use Rattle.invoke_types.specs.contracts.arguments.CreateContractArgsV2 as create_v2
use Rattle.invoke_types.specs.contracts.function.Function as function

unfoldable pub coded_asset : Coded Asset
coded_asset = asset.the_row.coded

unfoldable pub coded_preimage : Coded Preimage
coded_preimage = preimage.the_row.coded

unfoldable pub coded_invoke : Coded InvokeContractArgs
coded_invoke = invoke.the_row.coded

unfoldable pub coded_create : Coded CreateContractArgs
coded_create = create.the_row.coded

unfoldable pub coded_create_v2 : Coded CreateContractArgsV2
coded_create_v2 = create_v2.the_row.coded

unfoldable pub coded_function : Coded Function
coded_function = function.the_row.coded
