-- The network's numbers of the kinds of cost (ContractCostType in Stellar-contract-config-setting.x).
use Rattle.std.specs.Prelude.{ℕ}
use Rattle.budget_meter.specs.declared.kind.Kind.{Kind}
use Rattle.budget_meter.specs.declared.kind.Kind.TheVariants.{WasmInsnExec, MemAlloc, MemCpy, MemCmp, DispatchHostFunction}
use Rattle.budget_meter.specs.declared.kind.Kind.TheVariants.{VisitObject, ValSer, ValDeser, ComputeSha256Hash, VmInstantiation}
use Rattle.budget_meter.specs.declared.kind.Kind.TheVariants.{InvokeVmFunction}

abbrev pub number_of : Kind → ℕ
number_of WasmInsnExec = 0
number_of MemAlloc = 1
number_of MemCpy = 2
number_of MemCmp = 3
number_of DispatchHostFunction = 4
number_of VisitObject = 5
number_of ValSer = 6
number_of ValDeser = 7
number_of ComputeSha256Hash = 8
number_of VmInstantiation = 11
number_of InvokeVmFunction = 13
