-- What an entry that has a spelling holds.
use Rattle.std.proofs.Common.{◌≡◌, ◌<◌, ◌≤◌, ◌^◌, length, subst}
use Rattle.xdr_spec.specs.Format.{IsBytes, opaque}
use Rattle.value_types.specs.Views.{datum}
use Rattle.value_types.specs.Depth.{depth_of}
use Rattle.value_types.specs.Formats.{scval_format}
use Rattle.value_xdr.specs.Bytes.{IsBounded}
use Rattle.ledger_types.specs.Entry.{entry_format, body_format}
use Rattle.ledger_types.specs.ContractEntries.{data_format, code_format}
use Rattle.ledger_types.specs.declared.contract_entries.ContractDataEntry.{ContractDataEntry}
use Rattle.ledger_types.specs.declared.contract_entries.ContractCodeEntry.{ContractCodeEntry}
use Rattle.ledger_types.specs.declared.entry.LedgerEntryData.{LedgerEntryData}
use Rattle.ledger_types.specs.declared.entry.LedgerEntryData.TheVariants.{ContractData, ContractCode}
use Rattle.ledger_types.specs.declared.entry.LedgerEntry.{LedgerEntry}
use Rattle.host_frame.proofs.Lemmas.{spelled_bounded, spelled_shallow}

same_data : (c d : ContractDataEntry) → ContractData c ≡ ContractData d → c ≡ d
same_data c d e = cc

same_code : (c d : ContractCodeEntry) → ContractCode c ≡ ContractCode d → c ≡ d
same_code c d e = cc

value_spelled : (x : LedgerEntryData) (d : ContractDataEntry) → x ≡ ContractData d → body_format.fits x → scval_format.fits d.val
unfolding body_format data_format
value_spelled (ContractData c) d i h = subst (λ (c : ContractDataEntry). scval_format.fits c.val) (same_data c d i) h.1.1.1
value_spelled (ContractCode c) d i h = absurd cc

code_spelled : (x : LedgerEntryData) (d : ContractCodeEntry) → x ≡ ContractCode d → body_format.fits x → IsBytes d.code × (length d.code < 2 ^ 32)
unfolding body_format code_format opaque
code_spelled (ContractCode c) d i h = subst (λ (c : ContractCodeEntry). IsBytes c.code × (length c.code < 2 ^ 32)) (same_code c d i) (h.1.2, h.1.1)
code_spelled (ContractData c) d i h = absurd cc

pub value_bounded : (e : LedgerEntry) (d : ContractDataEntry) → entry_format.fits e → e.data ≡ ContractData d → IsBounded (datum d.val)
unfolding entry_format
value_bounded e d h i = spelled_bounded d.val (value_spelled e.data d i h.1.0)

pub value_shallow : (e : LedgerEntry) (d : ContractDataEntry) → entry_format.fits e → e.data ≡ ContractData d → depth_of (datum d.val) ≤ 100
unfolding entry_format
value_shallow e d h i = spelled_shallow d.val (value_spelled e.data d i h.1.0)

pub code_bytes : (e : LedgerEntry) (d : ContractCodeEntry) → entry_format.fits e → e.data ≡ ContractCode d → IsBytes d.code
unfolding entry_format
code_bytes e d h i = (code_spelled e.data d i h.1.0).0

pub code_few : (e : LedgerEntry) (d : ContractCodeEntry) → entry_format.fits e → e.data ≡ ContractCode d → length d.code < 2 ^ 32
unfolding entry_format
code_few e d h i = (code_spelled e.data d i h.1.0).1
