-- A ledger entry of a contract, and the key that names it (XDR file Stellar-ledger-entries, `LedgerEntry` and `LedgerKey`).
use Rattle.std.specs.Prelude.{◌≡◌, ◌<◌, ◌^◌, List, [], ◌∷◌, ℕ, Option, Some, None}
use Rattle.std.proofs.Common.{refl, arith}
use Rattle.xdr_spec.specs.Format.{Format, via, pair, arm, nothing, union, enumeration, find_kind, number32}
use Rattle.xdr_spec.specs.Laws.{IsFormat}
use Rattle.xdr_spec.proofs.Lemmas.{arm_kind, arm_lawful, enumeration_lawful, find_kind-back, nothing_lawful, number32_lawful}
use Rattle.xdr_spec.proofs.Lemmas.{pair_lawful, union_lawful, via_lawful}
use Rattle.value_types.specs.Headed.{headed, headed_lawful}
use Rattle.ledger_types.specs.ContractEntries.{data_format, data_lawful, code_format, code_lawful}
use Rattle.ledger_types.specs.declared.contract_entries.ContractDataEntry.{ContractDataEntry}
use Rattle.ledger_types.specs.declared.contract_entries.ContractCodeEntry.{ContractCodeEntry}
use Rattle.ledger_types.specs.declared.entry.ContractEntryType.{ContractEntryType}
use Rattle.ledger_types.specs.declared.entry.ContractEntryType.TheVariants as types
use Rattle.ledger_types.specs.declared.entry.LedgerEntryData.{LedgerEntryData}
use Rattle.ledger_types.specs.declared.entry.LedgerEntryData.TheVariants as bodies
use Rattle.ledger_types.specs.declared.entry.LedgerEntry.{LedgerEntry}
use Rattle.ledger_types.specs.declared.key.LedgerKey.{LedgerKey}
use Rattle.ledger_types.specs.declared.key.LedgerKey.TheVariants as keys

-- ---- the types

abbrev pub number : ContractEntryType → ℕ
number types.ContractData = 6
number types.ContractCode = 7

abbrev pub all : List ContractEntryType
all = types.ContractData ∷ types.ContractCode ∷ []

abbrev pub kind_of : ℕ → Option ContractEntryType
kind_of = find_kind number all

unfoldable pub type_format : Format ContractEntryType
type_format = enumeration number kind_of

small : (k : ContractEntryType) → number k < 2 ^ 32
small types.ContractData = omega arith
small types.ContractCode = omega arith

pub there : (k : ContractEntryType) → kind_of (number k) ≡ Some k
there types.ContractData = refl
there types.ContractCode = refl

pub type_lawful : IsFormat type_format
unfolding type_format
type_lawful = enumeration_lawful number kind_of types.ContractData small there (find_kind-back number all)

-- ---- what an entry has

abbrev pub kind : LedgerEntryData → ContractEntryType
kind (bodies.ContractData entry) = types.ContractData
kind (bodies.ContractCode entry) = types.ContractCode

abbrev pub as_contract_data : LedgerEntryData → Option ContractDataEntry
as_contract_data (bodies.ContractData entry) = Some entry
as_contract_data _ = None

abbrev pub as_contract_code : LedgerEntryData → Option ContractCodeEntry
as_contract_code (bodies.ContractCode entry) = Some entry
as_contract_code _ = None

abbrev pub arms : ContractEntryType → Format LedgerEntryData
arms types.ContractData = arm (λ e. bodies.ContractData e) as_contract_data data_format
arms types.ContractCode = arm (λ e. bodies.ContractCode e) as_contract_code code_format

unfoldable pub body_format : Format LedgerEntryData
body_format = union number kind_of kind arms

back_contract_data : (v : LedgerEntryData) (x : ContractDataEntry) → as_contract_data v ≡ Some x → bodies.ContractData x ≡ v
back_contract_data (bodies.ContractData entry) x e = cc
back_contract_data _ x e = absurd cc

back_contract_code : (v : LedgerEntryData) (x : ContractCodeEntry) → as_contract_code v ≡ Some x → bodies.ContractCode x ≡ v
back_contract_code (bodies.ContractCode entry) x e = cc
back_contract_code _ x e = absurd cc

arms_lawful : (k : ContractEntryType) → IsFormat (arms k)
arms_lawful types.ContractData =
    arm_lawful (λ e. bodies.ContractData e) as_contract_data _ (λ x. refl) back_contract_data data_lawful
arms_lawful types.ContractCode =
    arm_lawful (λ e. bodies.ContractCode e) as_contract_code _ (λ x. refl) back_contract_code code_lawful

coherent : (k : ContractEntryType) (v : LedgerEntryData) → (arms k).fits v → kind v ≡ k
coherent types.ContractData v h =
    arm_kind kind types.ContractData (λ e. bodies.ContractData e) as_contract_data data_format (λ x. refl) back_contract_data v h
coherent types.ContractCode v h =
    arm_kind kind types.ContractCode (λ e. bodies.ContractCode e) as_contract_code code_format (λ x. refl) back_contract_code v h

pub body_lawful : IsFormat body_format
unfolding body_format
body_lawful = union_lawful number kind_of kind arms (record {
  some = types.ContractData;
  small = small;
  there = there;
  back = find_kind-back number all;
  bodies = arms_lawful;
  coherent = coherent;
})

-- ---- the entry

abbrev pub Fields : Type 0
Fields = ℕ × (LedgerEntryData × Unit {0})

abbrev pub entry_of : Fields → LedgerEntry
entry_of f = record { last_modified_ledger_seq = f.0; «data» = f.1.0 }

abbrev pub entry_fields : LedgerEntry → Fields
entry_fields e = (e.last_modified_ledger_seq, (e.data, tt))

abbrev pub fields_format : Format Fields
fields_format = pair number32 (pair body_format (headed 0 (nothing tt)))

unfoldable pub entry_format : Format LedgerEntry
entry_format = via entry_of entry_fields fields_format

fields_lawful : IsFormat fields_format
fields_lawful =
    pair_lawful _ _ number32_lawful (pair_lawful _ _ body_lawful (headed_lawful 0 _ (omega arith) (nothing_lawful tt)))

pub entry_lawful : IsFormat entry_format
unfolding entry_format
entry_lawful = via_lawful entry_of entry_fields fields_format (λ f. refl) (λ e. refl) fields_lawful

-- ---- its key

abbrev pub key_of_data : LedgerEntryData → LedgerKey
key_of_data (bodies.ContractData entry) = keys.ContractData entry.contract entry.key entry.durability
key_of_data (bodies.ContractCode entry) = keys.ContractCode entry.hash

-- the key of an entry
abbrev pub key_of : LedgerEntry → LedgerKey
key_of entry = key_of_data entry.data
