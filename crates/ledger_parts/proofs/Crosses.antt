-- Which types of a ledger may cross threads. The search at a call of a thread goes down through all fields, and it stops at a
-- limit before it reaches the end of these types. So each type has lemmas of its own, which follow from those of its fields.
use denote.Param.Send.{IsSend, IsSync, sendable}
use Rattle.std.proofs.Crossing.{crosses as heap_crosses}
use Rattle.std.proofs.option.Option.TheSendSync as option
use Rattle.byte_list.proofs.Blob.TheSendSync as blob
use Rattle.value_types.proofs.error.ScError.TheSendSync as error
use Rattle.value_types.proofs.address.ScAddress.TheSendSync as address
use Rattle.value_types.proofs.executable.Executable.TheSendSync as executable
use Rattle.value_types.proofs.numbers.UInt128Parts.TheSendSync as u128
use Rattle.value_types.proofs.numbers.Int128Parts.TheSendSync as i128
use Rattle.value_types.proofs.numbers.UInt256Parts.TheSendSync as u256
use Rattle.value_types.proofs.numbers.Int256Parts.TheSendSync as i256
use Rattle.value_types.proofs.value.Entries.TheLaws.TheKnot.{crosses as value_crosses}
use Rattle.value_types.specs.contracts.value.ScVal as ScVal
use Rattle.invoke_types.specs.contracts.args.Args as Args
use Rattle.value_types.proofs.account_id.AccountId.TheSendSync as account
use Rattle.value_types.proofs.bytes.Bytes.TheSendSync as bytes
use Rattle.value_types.proofs.hash.Hash.TheSendSync as hash
use Rattle.ledger_types.proofs.asset.TrustLineAsset.TheSendSync as asset
use Rattle.ledger_types.proofs.durability.Durability.TheSendSync as durability
use Rattle.ledger_types.proofs.contract_entries.ContractCodeEntry.TheSendSync as code
use Rattle.ledger_types.specs.contracts.contract_entries.ContractDataEntry as ContractDataEntry
use Rattle.ledger_types.specs.contracts.entry.LedgerEntryData as LedgerEntryData
use Rattle.ledger_types.specs.contracts.entry.LedgerEntry as LedgerEntry
use Rattle.ledger_types.specs.contracts.key.LedgerKey as LedgerKey
use Rattle.ledger_spec.specs.contracts.Kept as Kept
use Rattle.entry_map.specs.contracts.stored.StoredEntry as StoredEntry
use Rattle.entry_map.specs.contracts.map.EntryMap as EntryMap

-- Clones of a collection share it, so a value may be sent only if it may be shared, and the other way round.
pub value_sync : IsSync (ScVal.the_field).row
value_sync = search (
  value_crosses,
  heap_crosses,
  sendable,
  option.the_field_send,
  option.the_field_sync,
  blob.the_send,
  blob.the_sync,
  error.the_send,
  error.the_sync,
  error.the_field_sync,
  address.the_send,
  address.the_sync,
  address.the_field_sync,
  executable.the_send,
  executable.the_sync,
  executable.the_field_sync,
  u128.the_send,
  u128.the_sync,
  u128.the_field_sync,
  i128.the_send,
  i128.the_sync,
  i128.the_field_sync,
  u256.the_send,
  u256.the_sync,
  u256.the_field_sync,
  i256.the_send,
  i256.the_sync,
  i256.the_field_sync,
) depth 40 fits 50000

pub value_send : IsSend (ScVal.the_field).row
value_send = search (
  value_crosses,
  heap_crosses,
  sendable,
  option.the_field_send,
  option.the_field_sync,
  blob.the_send,
  blob.the_sync,
  error.the_send,
  error.the_sync,
  error.the_field_send,
  address.the_send,
  address.the_sync,
  address.the_field_send,
  executable.the_send,
  executable.the_sync,
  executable.the_field_send,
  u128.the_send,
  u128.the_sync,
  u128.the_field_send,
  i128.the_send,
  i128.the_sync,
  i128.the_field_send,
  u256.the_send,
  u256.the_sync,
  u256.the_field_send,
  i256.the_send,
  i256.the_sync,
  i256.the_field_send,
) depth 40 fits 50000

-- the arguments of a call are held as the members of a vec are
pub args_sync : IsSync (Args.the_field).row
args_sync = search (
  value_crosses,
  heap_crosses,
  sendable,
  option.the_field_send,
  option.the_field_sync,
  blob.the_send,
  blob.the_sync,
  error.the_send,
  error.the_sync,
  error.the_field_sync,
  address.the_send,
  address.the_sync,
  address.the_field_sync,
  executable.the_send,
  executable.the_sync,
  executable.the_field_sync,
  u128.the_send,
  u128.the_sync,
  u128.the_field_sync,
  i128.the_send,
  i128.the_sync,
  i128.the_field_sync,
  u256.the_send,
  u256.the_sync,
  u256.the_field_sync,
  i256.the_send,
  i256.the_sync,
  i256.the_field_sync,
) depth 45 fits 50000

pub data_sync : IsSync (ContractDataEntry.the_field).row
data_sync = search (value_sync, address.the_field_sync, durability.the_field_sync, sendable) depth 20 fits 5000

pub data_send : IsSend (ContractDataEntry.the_field).row
data_send = search (value_send, address.the_field_send, durability.the_field_send, sendable) depth 20 fits 5000

pub either_sync : IsSync (LedgerEntryData.the_field).row
either_sync = search (data_sync, code.the_field_sync, sendable) depth 20 fits 5000

pub either_send : IsSend (LedgerEntryData.the_field).row
either_send = search (data_send, code.the_field_send, sendable) depth 20 fits 5000

pub entry_sync : IsSync (LedgerEntry.the_field).row
entry_sync = search (either_sync, sendable) depth 20 fits 5000

pub entry_send : IsSend (LedgerEntry.the_field).row
entry_send = search (either_send, sendable) depth 20 fits 5000

pub key_sync : IsSync (LedgerKey.the_field).row
key_sync = search (value_sync, account.the_field_sync, bytes.the_sync, hash.the_field_sync, address.the_field_sync, asset.the_field_sync, durability.the_field_sync, sendable) depth 40 fits 5000

pub key_send : IsSend (LedgerKey.the_field).row
key_send = search (value_send, account.the_field_send, bytes.the_send, hash.the_field_send, address.the_field_send, asset.the_field_send, durability.the_field_send, sendable) depth 40 fits 5000

pub kept_sync : IsSync (Kept.the_field).row
kept_sync = search (entry_sync, sendable) depth 20 fits 5000

pub kept_send : IsSend (Kept.the_field).row
kept_send = search (entry_send, sendable) depth 20 fits 5000

pub stored_sync : IsSync (StoredEntry.the_field).row
stored_sync = search (kept_sync, hash.the_field_sync, sendable) depth 20 fits 5000

pub stored_send : IsSend (StoredEntry.the_field).row
stored_send = search (kept_send, hash.the_field_send, sendable) depth 20 fits 5000

pub map_sync : IsSync (EntryMap.the_field).row
map_sync = search (stored_sync, heap_crosses, sendable) depth 20 fits 5000

pub map_send : IsSend (EntryMap.the_field).row
map_send = search (stored_send, heap_crosses, sendable) depth 20 fits 5000
