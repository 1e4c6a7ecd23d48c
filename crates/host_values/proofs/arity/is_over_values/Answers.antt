use Rattle.host_values.proofs.Counts.{context, ledger, contracts, calls, over_values}
use Rattle.host_values.proofs.arity.is_over_values.Goals as goal

pub returns-in-ContractEvent : goal.returns-in-ContractEvent
returns-in-ContractEvent c = context c.args.import c.in-ContractEvent.is

pub returns-in-PutContractData : goal.returns-in-PutContractData
returns-in-PutContractData c = ledger c.args.import c.in-PutContractData.is

pub returns-in-UploadWasm : goal.returns-in-UploadWasm
returns-in-UploadWasm c = contracts c.args.import c.in-UploadWasm.is

pub returns-in-Call : goal.returns-in-Call
returns-in-Call c = calls c.args.import c.in-Call.is

pub returns-in_default : goal.returns-in_default
returns-in_default c =
    (let d = c.in_default in over_values c.args.import d.not-ContractEvent d.not-GetLedgerVersion d.not-GetLedgerSequence d.not-GetLedgerTimestamp d.not-GetLedgerNetworkId d.not-GetCurrentContractAddress d.not-GetMaxLiveUntilLedger d.not-FailWithError d.not-PutContractData d.not-HasContractData d.not-GetContractData d.not-DelContractData d.not-ExtendContractDataTtl d.not-ExtendCurrentContractInstanceAndCodeTtl d.not-UploadWasm d.not-CreateContract d.not-CreateContractWithConstructor d.not-UpdateCurrentContractWasm d.not-GetContractId d.not-Call d.not-TryCall d.not-RequireAuth d.not-RequireAuthForArgs)
