-- Which types of transactions may cross threads, each from those of its fields.
use denote.Param.Send.{IsSend, IsSync, sendable}
use Rattle.std.proofs.Crossing.{crosses as heap_crosses}
use Rattle.std.proofs.option.Option.TheSendSync as option
use Rattle.byte_list.proofs.Blob.TheSendSync as blob
use Rattle.value_types.proofs.address.ScAddress.TheSendSync as address
use Rattle.value_types.proofs.executable.Executable.TheSendSync as executable
use Rattle.value_types.proofs.bytes.Bytes.TheSendSync as bytes
use Rattle.value_types.proofs.hash.Hash.TheSendSync as hash
use Rattle.value_types.proofs.items.Items.TheSendSync as items
use Rattle.tx_parts.proofs.account.MuxedAccount.TheSendSync as muxed
use Rattle.tx_parts.proofs.preconditions.Preconditions.TheSendSync as preconditions
use Rattle.tx_parts.proofs.memo.Memo.TheSendSync as memo
use Rattle.tx_parts.proofs.signature.DecoratedSignature.TheSendSync as signature
use Rattle.invoke_types.proofs.preimage.Preimage.TheSendSync as preimage
use Rattle.invoke_types.proofs.arguments.CreateContractArgs.TheSendSync as create
use Rattle.invoke_types.proofs.event.ContractEventType.TheSendSync as event_type
use Rattle.auth_types.proofs.invocation.Invocations.TheLaws.TheKnot.{crosses as invocation_crosses}
use Rattle.ledger_parts.proofs.Crosses.{args_sync, value_sync, value_send, key_sync, key_send}
use Rattle.invoke_types.specs.contracts.arguments.InvokeContractArgs as InvokeContractArgs
use Rattle.invoke_types.specs.contracts.arguments.CreateContractArgsV2 as CreateContractArgsV2
use Rattle.invoke_types.specs.contracts.function.Function as Function
use Rattle.invoke_types.specs.contracts.host_function.HostFunction as HostFunction
use Rattle.auth_types.specs.contracts.invocation.Invocation as Invocation
use Rattle.auth_types.specs.contracts.credentials.AddressCredentials as AddressCredentials
use Rattle.auth_types.specs.contracts.credentials.Credentials as Credentials
use Rattle.auth_types.specs.contracts.auth_entry.AuthEntry as AuthEntry
use Rattle.tx_xdr.specs.contracts.transaction.OperationBody as OperationBody
use Rattle.tx_xdr.specs.contracts.transaction.Operation as Operation
use Rattle.tx_xdr.specs.contracts.transaction.Footprint as Footprint
use Rattle.tx_xdr.specs.contracts.transaction.SorobanData as SorobanData
use Rattle.tx_xdr.specs.contracts.transaction.TransactionExt as TransactionExt
use Rattle.tx_xdr.specs.contracts.transaction.Transaction as Transaction
use Rattle.tx_xdr.specs.contracts.envelope.SignedTransaction as SignedTransaction
use Rattle.tx_xdr.specs.contracts.envelope.FeeBump as FeeBump
use Rattle.tx_xdr.specs.contracts.envelope.SignedFeeBump as SignedFeeBump
use Rattle.tx_xdr.specs.contracts.envelope.Envelope as Envelope
use Rattle.invoke_types.specs.contracts.event.ContractEvent as ContractEvent
use Rattle.invoke_types.specs.contracts.success.SuccessPreimage as SuccessPreimage
use Rattle.stage_runs.specs.contracts.Extension as Extension

pub call_sync : IsSync (InvokeContractArgs.the_field).row
call_sync = search (args_sync, address.the_field_sync, bytes.the_sync, sendable) depth 20 fits 5000

pub create2_sync : IsSync (CreateContractArgsV2.the_field).row
create2_sync = search (args_sync, preimage.the_field_sync, executable.the_field_sync, sendable) depth 20 fits 5000

pub function_sync : IsSync (Function.the_field).row
function_sync = search (call_sync, create.the_field_sync, create2_sync, sendable) depth 20 fits 5000

pub host_function_sync : IsSync (HostFunction.the_field).row
host_function_sync = search (call_sync, create.the_field_sync, create2_sync, blob.the_sync, sendable) depth 20 fits 5000

pub invocation_sync : IsSync (Invocation.the_field).row
invocation_sync = search (function_sync, invocation_crosses, heap_crosses, sendable) depth 20 fits 5000

pub by_address_sync : IsSync (AddressCredentials.the_field).row
by_address_sync = search (value_sync, address.the_field_sync, sendable) depth 20 fits 5000

pub credentials_sync : IsSync (Credentials.the_field).row
credentials_sync = search (by_address_sync, sendable) depth 20 fits 5000

pub auth_sync : IsSync (AuthEntry.the_field).row
auth_sync = search (credentials_sync, invocation_sync, sendable) depth 20 fits 5000

pub body_sync : IsSync (OperationBody.the_field).row
body_sync = search (host_function_sync, auth_sync, items.the_sync, sendable) depth 20 fits 5000

pub operation_sync : IsSync (Operation.the_field).row
operation_sync = search (body_sync, option.the_field_sync, muxed.the_sync, sendable) depth 20 fits 5000

pub footprint_sync : IsSync (Footprint.the_field).row
footprint_sync = search (key_sync, items.the_sync, sendable) depth 20 fits 5000

pub soroban_sync : IsSync (SorobanData.the_field).row
soroban_sync = search (footprint_sync, sendable) depth 20 fits 5000

pub ext_sync : IsSync (TransactionExt.the_field).row
ext_sync = search (soroban_sync, sendable) depth 20 fits 5000

pub transaction_sync : IsSync (Transaction.the_field).row
transaction_sync = search (ext_sync, operation_sync, muxed.the_field_sync, preconditions.the_field_sync, memo.the_field_sync, items.the_sync, sendable) depth 20 fits 5000

pub signed_sync : IsSync (SignedTransaction.the_field).row
signed_sync = search (transaction_sync, signature.the_sync, items.the_sync, sendable) depth 20 fits 5000

pub bump_sync : IsSync (FeeBump.the_field).row
bump_sync = search (signed_sync, muxed.the_field_sync, sendable) depth 20 fits 5000

pub signed_bump_sync : IsSync (SignedFeeBump.the_field).row
signed_bump_sync = search (bump_sync, signature.the_sync, items.the_sync, sendable) depth 20 fits 5000

pub envelope_sync : IsSync (Envelope.the_field).row
envelope_sync = search (signed_sync, signed_bump_sync, sendable) depth 20 fits 5000

pub event_send : IsSend (ContractEvent.the_field).row
event_send = search (value_send, option.the_field_send, hash.the_send, event_type.the_field_send, items.the_send, sendable) depth 20 fits 5000

pub success_send : IsSend (SuccessPreimage.the_field).row
success_send = search (value_send, event_send, items.the_send, sendable) depth 20 fits 5000

pub extension_send : IsSend (Extension.the_field).row
extension_send = search (key_send, sendable) depth 20 fits 5000
