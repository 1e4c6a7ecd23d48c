-- The result of a host function, by how its run ended (own).
use Rattle.std.specs.Prelude.{ℕ, List, Option, Some, None, nat_lt, if◌then◌else◌}
use Rattle.sha2.specs.Sha256.{sha256}
use Rattle.budget_meter.specs.declared.budget.Used.{Used}
use Rattle.value_types.specs.declared.value.ScVal.{ScVal}
use Rattle.value_types.specs.Hash.{hash_of}
use Rattle.invoke_types.specs.Success.{success_format}
use Rattle.invoke_types.specs.declared.event.ContractEvent.{ContractEvent}
use Rattle.invoke_types.specs.declared.success.SuccessPreimage.{SuccessPreimage}
use Rattle.tx_xdr.specs.declared.transaction.SorobanData.{SorobanData}
use Rattle.tx_results.specs.declared.operation.InvokeResult.{InvokeResult}
use Rattle.tx_results.specs.declared.operation.InvokeResult.TheVariants.{Success, Trapped, ResourceLimitExceeded}
use Rattle.ledger_spec.specs.LedgerMap.{LedgerMap}
use Rattle.host_spec.specs.declared.error.HostErr.{HostErr}
use Rattle.host_spec.specs.declared.error.HostErr.TheVariants as ends
use Rattle.call_spec.specs.Invoked.{Invoked, written_bytes, unsuccessful}

-- the result of a host function that ended without a value; there is none if memory ran out
abbrev pub result_of : HostErr → Option InvokeResult
result_of ends.Spent = Some ResourceLimitExceeded
result_of (ends.Failed e) = Some Trapped
result_of (ends.Undeclared key) = Some Trapped
result_of (ends.Archived key) = Some Trapped
result_of ends.NoMemory = None

abbrev pub successful_with : SuccessPreimage → LedgerMap → Used → Invoked
successful_with success new used = record {
  result = Success (hash_of (sha256 (success_format.spell success)));
  success = Some success;
  entries = new;
  used = used;
}

-- a host function that returned a value in ledger n, with the map, the events and the sums then
abbrev pub outcome_with : ℕ → SorobanData → LedgerMap → ScVal → LedgerMap → List ContractEvent → Used → Invoked
outcome_with n resources old value new events used =
    if nat_lt resources.write_bytes (written_bytes n old new) then unsuccessful ResourceLimitExceeded old used
    else successful_with (record { return_value = value; events = events }) new used
