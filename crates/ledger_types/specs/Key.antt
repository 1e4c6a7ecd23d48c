-- The key of a ledger entry: the number of the entry's type, and the fields that identify the entry among those of its type (XDR
-- file Stellar-ledger-entries, `LedgerKey`).
use Rattle.std.specs.Prelude.{◌≡◌, List, ℕ, ℤ, Option, Some, None}
use Rattle.std.proofs.Common.{refl}
use Rattle.xdr_spec.specs.Format.{Format, pair, arm, union, signed64, opaque}
use Rattle.xdr_spec.specs.Laws.{IsFormat}
use Rattle.xdr_spec.proofs.Lemmas.{arm_kind, arm_lawful, find_kind-back, opaque_lawful, pair_lawful, signed64_lawful}
use Rattle.xdr_spec.proofs.Lemmas.{union_lawful}
use Rattle.value_types.specs.BalanceId.{balance_id_format, balance_id_lawful}
use Rattle.value_types.specs.Hash.{hash_format, hash_lawful}
use Rattle.value_types.specs.AccountId.{account_id_format, account_id_lawful}
use Rattle.value_types.specs.Address.{address_format, address_lawful}
use Rattle.value_types.specs.Formats.{scval_format}
use Rattle.value_types.proofs.Lemmas.{scval_lawful}
use Rattle.value_types.specs.declared.hash.Hash.{Hash}
use Rattle.value_types.specs.declared.account_id.AccountId.{AccountId}
use Rattle.value_types.specs.declared.address.ScAddress.{ScAddress}
use Rattle.value_types.specs.declared.value.ScVal.{ScVal}
use Rattle.ledger_types.specs.Durability.{durability_format, durability_lawful}
use Rattle.ledger_types.specs.TrustLineAsset.{asset_format, asset_lawful}
use Rattle.ledger_types.specs.EntryType.{number, all, kind_of, small, there}
use Rattle.ledger_types.specs.declared.asset.TrustLineAsset.{TrustLineAsset}
use Rattle.ledger_types.specs.declared.durability.Durability.{Durability}
use Rattle.ledger_types.specs.declared.entry_type.LedgerEntryType.{LedgerEntryType}
use Rattle.ledger_types.specs.declared.entry_type.LedgerEntryType.TheVariants as types
use Rattle.ledger_types.specs.declared.key.LedgerKey.{LedgerKey}
use Rattle.ledger_types.specs.declared.key.LedgerKey.TheVariants as keys

abbrev pub kind : LedgerKey → LedgerEntryType
kind (keys.Account account) = types.Account
kind (keys.Trustline account asset) = types.Trustline
kind (keys.Offer seller offer) = types.Offer
kind (keys.Data account name) = types.Data
kind (keys.ClaimableBalance id) = types.ClaimableBalance
kind (keys.LiquidityPool id) = types.LiquidityPool
kind (keys.ContractData contract key durability) = types.ContractData
kind (keys.ContractCode hash) = types.ContractCode
kind (keys.Ttl hash) = types.Ttl

abbrev pub account_of : AccountId → LedgerKey
account_of x = keys.Account x

abbrev pub as_account : LedgerKey → Option AccountId
as_account (keys.Account account) = Some account
as_account _ = None

abbrev pub trustline_of : AccountId × TrustLineAsset → LedgerKey
trustline_of x = keys.Trustline x.0 x.1

abbrev pub as_trustline : LedgerKey → Option (AccountId × TrustLineAsset)
as_trustline (keys.Trustline account asset) = Some (account, asset)
as_trustline _ = None

abbrev pub offer_of : AccountId × ℤ → LedgerKey
offer_of x = keys.Offer x.0 x.1

abbrev pub as_offer : LedgerKey → Option (AccountId × ℤ)
as_offer (keys.Offer seller offer) = Some (seller, offer)
as_offer _ = None

abbrev pub named_data_of : AccountId × List ℕ → LedgerKey
named_data_of x = keys.Data x.0 x.1

abbrev pub as_named_data : LedgerKey → Option (AccountId × List ℕ)
as_named_data (keys.Data account name) = Some (account, name)
as_named_data _ = None

abbrev pub balance_of : Hash → LedgerKey
balance_of x = keys.ClaimableBalance x

abbrev pub as_balance : LedgerKey → Option Hash
as_balance (keys.ClaimableBalance id) = Some id
as_balance _ = None

abbrev pub pool_of : Hash → LedgerKey
pool_of x = keys.LiquidityPool x

abbrev pub as_pool : LedgerKey → Option Hash
as_pool (keys.LiquidityPool id) = Some id
as_pool _ = None

abbrev pub contract_data_of : ScAddress × (ScVal × Durability) → LedgerKey
contract_data_of x = keys.ContractData x.0 x.1.0 x.1.1

abbrev pub as_contract_data : LedgerKey → Option (ScAddress × (ScVal × Durability))
as_contract_data (keys.ContractData contract key durability) = Some (contract, (key, durability))
as_contract_data _ = None

abbrev pub code_of : Hash → LedgerKey
code_of x = keys.ContractCode x

abbrev pub as_code : LedgerKey → Option Hash
as_code (keys.ContractCode hash) = Some hash
as_code _ = None

abbrev pub ttl_of : Hash → LedgerKey
ttl_of x = keys.Ttl x

abbrev pub as_ttl : LedgerKey → Option Hash
as_ttl (keys.Ttl hash) = Some hash
as_ttl _ = None

abbrev pub arms : LedgerEntryType → Format LedgerKey
arms types.Account = arm account_of as_account account_id_format
arms types.Trustline = arm trustline_of as_trustline (pair account_id_format asset_format)
arms types.Offer = arm offer_of as_offer (pair account_id_format signed64)
arms types.Data = arm named_data_of as_named_data (pair account_id_format (opaque 64))
arms types.ClaimableBalance = arm balance_of as_balance balance_id_format
arms types.LiquidityPool = arm pool_of as_pool hash_format
arms types.ContractData = arm contract_data_of as_contract_data (pair address_format (pair scval_format durability_format))
arms types.ContractCode = arm code_of as_code hash_format
arms types.Ttl = arm ttl_of as_ttl hash_format

unfoldable pub key_format : Format LedgerKey
key_format = union number kind_of kind arms

back_account : (v : LedgerKey) (x : AccountId) → as_account v ≡ Some x → account_of x ≡ v
back_account (keys.Account account) x e = cc
back_account _ x e = absurd cc

back_trustline : (v : LedgerKey) (x : AccountId × TrustLineAsset) → as_trustline v ≡ Some x → trustline_of x ≡ v
back_trustline (keys.Trustline account asset) x e = cc
back_trustline _ x e = absurd cc

back_offer : (v : LedgerKey) (x : AccountId × ℤ) → as_offer v ≡ Some x → offer_of x ≡ v
back_offer (keys.Offer seller offer) x e = cc
back_offer _ x e = absurd cc

back_named_data : (v : LedgerKey) (x : AccountId × List ℕ) → as_named_data v ≡ Some x → named_data_of x ≡ v
back_named_data (keys.Data account name) x e = cc
back_named_data _ x e = absurd cc

back_balance : (v : LedgerKey) (x : Hash) → as_balance v ≡ Some x → balance_of x ≡ v
back_balance (keys.ClaimableBalance id) x e = cc
back_balance _ x e = absurd cc

back_pool : (v : LedgerKey) (x : Hash) → as_pool v ≡ Some x → pool_of x ≡ v
back_pool (keys.LiquidityPool id) x e = cc
back_pool _ x e = absurd cc

back_contract_data : (v : LedgerKey) (x : ScAddress × (ScVal × Durability)) → as_contract_data v ≡ Some x → contract_data_of x ≡ v
back_contract_data (keys.ContractData contract key durability) x e = cc
back_contract_data _ x e = absurd cc

back_code : (v : LedgerKey) (x : Hash) → as_code v ≡ Some x → code_of x ≡ v
back_code (keys.ContractCode hash) x e = cc
back_code _ x e = absurd cc

back_ttl : (v : LedgerKey) (x : Hash) → as_ttl v ≡ Some x → ttl_of x ≡ v
back_ttl (keys.Ttl hash) x e = cc
back_ttl _ x e = absurd cc

arms_lawful : (k : LedgerEntryType) → IsFormat (arms k)
arms_lawful types.Account = arm_lawful account_of as_account _ (λ x. refl) back_account account_id_lawful
arms_lawful types.Trustline =
    arm_lawful trustline_of as_trustline _ (λ x. refl) back_trustline (pair_lawful _ _ account_id_lawful asset_lawful)
arms_lawful types.Offer =
    arm_lawful offer_of as_offer _ (λ x. refl) back_offer (pair_lawful _ _ account_id_lawful signed64_lawful)
arms_lawful types.Data =
    arm_lawful named_data_of as_named_data _ (λ x. refl) back_named_data (pair_lawful _ _ account_id_lawful (opaque_lawful 64))
arms_lawful types.ClaimableBalance = arm_lawful balance_of as_balance _ (λ x. refl) back_balance balance_id_lawful
arms_lawful types.LiquidityPool = arm_lawful pool_of as_pool _ (λ x. refl) back_pool hash_lawful
arms_lawful types.ContractData =
    arm_lawful contract_data_of as_contract_data _ (λ x. refl) back_contract_data
    (pair_lawful _ _ address_lawful (pair_lawful _ _ scval_lawful durability_lawful))
arms_lawful types.ContractCode = arm_lawful code_of as_code _ (λ x. refl) back_code hash_lawful
arms_lawful types.Ttl = arm_lawful ttl_of as_ttl _ (λ x. refl) back_ttl hash_lawful

coherent : (k : LedgerEntryType) (v : LedgerKey) → (arms k).fits v → kind v ≡ k
coherent types.Account v h = arm_kind kind types.Account account_of as_account account_id_format (λ x. refl) back_account v h
coherent types.Trustline v h =
    arm_kind kind types.Trustline trustline_of as_trustline (pair account_id_format asset_format) (λ x. refl) back_trustline v h
coherent types.Offer v h =
    arm_kind kind types.Offer offer_of as_offer (pair account_id_format signed64) (λ x. refl) back_offer v h
coherent types.Data v h =
    arm_kind kind types.Data named_data_of as_named_data (pair account_id_format (opaque 64)) (λ x. refl) back_named_data v h
coherent types.ClaimableBalance v h =
    arm_kind kind types.ClaimableBalance balance_of as_balance balance_id_format (λ x. refl) back_balance v h
coherent types.LiquidityPool v h = arm_kind kind types.LiquidityPool pool_of as_pool hash_format (λ x. refl) back_pool v h
coherent types.ContractData v h =
    arm_kind kind types.ContractData contract_data_of as_contract_data
    (pair address_format (pair scval_format durability_format)) (λ x. refl) back_contract_data v h
coherent types.ContractCode v h = arm_kind kind types.ContractCode code_of as_code hash_format (λ x. refl) back_code v h
coherent types.Ttl v h = arm_kind kind types.Ttl ttl_of as_ttl hash_format (λ x. refl) back_ttl v h

pub key_lawful : IsFormat key_format
unfolding key_format
key_lawful = union_lawful number kind_of kind arms (record {
  some = types.Account;
  small = small;
  there = there;
  back = find_kind-back number all;
  bodies = arms_lawful;
  coherent = coherent;
})
