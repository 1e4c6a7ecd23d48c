-- Keys and entries of contracts' data.
use Rattle.std.proofs.Common.{◌≡◌, ℕ, ◌<◌, ◌^◌, refl, subst, arith}
use Rattle.xdr_spec.specs.Format.{number32}
use Rattle.value_types.specs.Address.{address_format}
use Rattle.value_types.specs.Hash.{hash_format}
use Rattle.value_types.specs.Views.{datum, scval}
use Rattle.value_types.proofs.Lemmas.{scval-datum}
use Rattle.value_types.specs.declared.value.ScVal.{ScVal}
use Rattle.value_types.specs.declared.value.ScVal.TheVariants.{LedgerKeyContractInstance}
use Rattle.value_types.specs.declared.address.ScAddress.{ScAddress}
use Rattle.invoke_types.specs.Preimage.{preimage_format}
use Rattle.invoke_types.specs.declared.preimage.Preimage.TheVariants.{FromAddress}
use Rattle.value_types.specs.declared.hash.Hash.{Hash}
use Rattle.value_types.specs.declared.address.ScAddress.TheVariants.{Contract}
use Rattle.ledger_types.specs.Key.{key_format}
use Rattle.ledger_types.specs.Entry.{entry_format, body_format}
use Rattle.ledger_types.specs.ContractEntries.{data_format}
use Rattle.ledger_types.specs.Durability.{durability_format}
use Rattle.ledger_types.specs.declared.durability.Durability.{Durability}
use Rattle.ledger_types.specs.declared.durability.Durability.TheVariants.{Persistent}
use Rattle.ledger_types.specs.declared.contract_entries.ContractDataEntry.{ContractDataEntry}
use Rattle.ledger_types.specs.declared.entry.LedgerEntryData.{LedgerEntryData}
use Rattle.ledger_types.specs.declared.entry.LedgerEntryData.TheVariants.{ContractData, ContractCode}
use Rattle.ledger_types.specs.declared.entry.LedgerEntry.{LedgerEntry}
use Rattle.value_xdr.specs.Bytes.{IsBounded}
use Rattle.host_frame.proofs.Lemmas.{hosted_fits, shallow_fits, spelled_bounded}
use Rattle.host_spec.specs.Hosted.{IsHosted}
use Rattle.call_spec.specs.Keys.{data_key_of, data_entry_of, instance_key, code_key}

pub same_scval : (v : ScVal) → scval (datum v) ≡ v
same_scval v = scval-datum v

pub durability_fits : (d : Durability) → durability_format.fits d
unfolding durability_format
durability_fits d = refl

pub data_key_fits : (contract : Hash) (v : ScVal) (d : Durability) → address_format.fits (Contract contract) → IsHosted (datum v) → key_format.fits (data_key_of contract v d)
unfolding key_format
data_key_fits contract v d a h = (a, (hosted_fits v h, durability_fits d))

pub data_entry_fits : (n : ℕ) (contract : Hash) (key : ScVal) (d : Durability) (val : ScVal) → n < 2 ^ 32 → address_format.fits (Contract contract) → IsHosted (datum key) → IsHosted (datum val)
    → entry_format.fits (data_entry_of n contract key d val)
unfolding entry_format body_format data_format number32
data_entry_fits n contract key d val small a h k = (small, ((a, (hosted_fits key h, (durability_fits d, hosted_fits val k))), refl))

-- the value of an entry that has a spelling
pub value_bounded : (e : LedgerEntry) (d : ContractDataEntry) → entry_format.fits e → e.data ≡ ContractData d → IsBounded (datum d.val)
unfolding entry_format body_format data_format
value_bounded e d h i = of_data e.data d i h.1.0
  where
    data_same : (c d : ContractDataEntry) → ContractData c ≡ ContractData d → c ≡ d
    data_same c d e = cc

    of_data : (x : LedgerEntryData) (d : ContractDataEntry) → x ≡ ContractData d → body_format.fits x → IsBounded (datum d.val)
    of_data (ContractData c) d i h = subst (λ (c : ContractDataEntry). IsBounded (datum c.val)) (data_same c d i) (spelled_bounded c.val h.1.1.1)
    of_data (ContractCode c) d i h = absurd cc

pub instance_key_fits : (contract : Hash) → address_format.fits (Contract contract) → key_format.fits (instance_key contract)
unfolding key_format
instance_key_fits contract a = (a, (shallow_fits LedgerKeyContractInstance tt (omega arith), durability_fits Persistent))

pub code_key_fits : (code : Hash) → hash_format.fits code → key_format.fits (code_key code)
unfolding key_format
code_key_fits code h = h

pub preimage_fits : (deployer : ScAddress) (salt : Hash) → address_format.fits deployer → hash_format.fits salt → preimage_format.fits (FromAddress deployer salt)
unfolding preimage_format
preimage_fits deployer salt a h = (a, h)
