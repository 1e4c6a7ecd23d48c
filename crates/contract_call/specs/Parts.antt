-- Which part of the program answers a call of a host function.
use Rattle.std.specs.Prelude.{◌≡◌, true, is_some}
use Rattle.host_interface.specs.declared.import.HostImport.{HostImport}
use Rattle.host_interface.specs.declared.import.HostImport.TheVariants as imports
use Rattle.host_spec.specs.ValueFunctions.{value_rule}
use Rattle.host_ledger.specs.Called.{is_over_ledger}
use Rattle.contract_call.specs.declared.parts.Part.{Part}
use Rattle.contract_call.specs.declared.parts.Part.TheVariants as parts

-- the function is one of this part
abbrev pub IsPart : Part → HostImport → Type 0
IsPart parts.Values i = is_some (value_rule i) ≡ true
IsPart parts.Ledger i = is_over_ledger i ≡ true
IsPart parts.Upload i = i ≡ imports.UploadWasm
IsPart parts.Auth i = i ≡ imports.RequireAuth
IsPart parts.AuthForArgs i = i ≡ imports.RequireAuthForArgs
IsPart parts.Call i = i ≡ imports.Call
IsPart parts.TryCall i = i ≡ imports.TryCall
IsPart parts.Create i = i ≡ imports.CreateContract
IsPart parts.Construct i = i ≡ imports.CreateContractWithConstructor
