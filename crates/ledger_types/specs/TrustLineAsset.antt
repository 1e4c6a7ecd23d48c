-- The asset of a trust line: the number of a type, and then its fields (XDR file Stellar-ledger-entries,
-- `AssetType` and `TrustLineAsset`).
use Rattle.std.specs.Prelude.{◌≡◌, ◌<◌, ◌^◌, List, [], ◌∷◌, ℕ, Option, Some, None}
use Rattle.std.proofs.Common.{refl, ap, arith}
use Rattle.xdr_spec.specs.Format.{Format, pair, arm, nothing, union, enumeration, find_kind}
use Rattle.xdr_spec.specs.Laws.{IsFormat}
use Rattle.xdr_spec.proofs.Lemmas.{arm_kind, arm_lawful, enumeration_lawful, find_kind-back, nothing_lawful, pair_lawful}
use Rattle.xdr_spec.proofs.Lemmas.{union_lawful}
use Rattle.value_types.specs.Hash.{hash_format, hash_lawful}
use Rattle.value_types.specs.AccountId.{account_id_format, account_id_lawful}
use Rattle.value_types.specs.declared.hash.Hash.{Hash}
use Rattle.value_types.specs.declared.account_id.AccountId.{AccountId}
use Rattle.ledger_types.specs.AssetCode.{code4_format, code4_lawful, code12_format, code12_lawful}
use Rattle.ledger_types.specs.declared.asset.AssetCode4.{AssetCode4}
use Rattle.ledger_types.specs.declared.asset.AssetCode12.{AssetCode12}
use Rattle.ledger_types.specs.declared.asset.AssetType.{AssetType}
use Rattle.ledger_types.specs.declared.asset.AssetType.TheVariants as types
use Rattle.ledger_types.specs.declared.asset.TrustLineAsset.{TrustLineAsset}
use Rattle.ledger_types.specs.declared.asset.TrustLineAsset.TheVariants as assets

-- ---- the types

abbrev pub number : AssetType → ℕ
number types.Native = 0
number types.CreditAlphanum4 = 1
number types.CreditAlphanum12 = 2
number types.PoolShare = 3

abbrev pub all : List AssetType
all = types.Native ∷ types.CreditAlphanum4 ∷ types.CreditAlphanum12 ∷ types.PoolShare ∷ []

abbrev pub kind_of : ℕ → Option AssetType
kind_of = find_kind number all

unfoldable pub type_format : Format AssetType
type_format = enumeration number kind_of

pub small : (k : AssetType) → number k < 2 ^ 32
small types.Native = omega arith
small types.CreditAlphanum4 = omega arith
small types.CreditAlphanum12 = omega arith
small types.PoolShare = omega arith

pub there : (k : AssetType) → kind_of (number k) ≡ Some k
there types.Native = refl
there types.CreditAlphanum4 = refl
there types.CreditAlphanum12 = refl
there types.PoolShare = refl

pub type_lawful : IsFormat type_format
unfolding type_format
type_lawful = enumeration_lawful number kind_of types.Native small there (find_kind-back number all)

-- ---- the assets

abbrev pub kind : TrustLineAsset → AssetType
kind assets.Native = types.Native
kind (assets.CreditAlphanum4 code issuer) = types.CreditAlphanum4
kind (assets.CreditAlphanum12 code issuer) = types.CreditAlphanum12
kind (assets.PoolShare pool) = types.PoolShare

abbrev pub alphanum4_of : AssetCode4 × AccountId → TrustLineAsset
alphanum4_of c = assets.CreditAlphanum4 c.0 c.1

abbrev pub as_alphanum4 : TrustLineAsset → Option (AssetCode4 × AccountId)
as_alphanum4 (assets.CreditAlphanum4 code issuer) = Some (code, issuer)
as_alphanum4 _ = None

abbrev pub alphanum12_of : AssetCode12 × AccountId → TrustLineAsset
alphanum12_of c = assets.CreditAlphanum12 c.0 c.1

abbrev pub as_alphanum12 : TrustLineAsset → Option (AssetCode12 × AccountId)
as_alphanum12 (assets.CreditAlphanum12 code issuer) = Some (code, issuer)
as_alphanum12 _ = None

abbrev pub pool_of : Hash → TrustLineAsset
pool_of pool = assets.PoolShare pool

abbrev pub as_pool : TrustLineAsset → Option Hash
as_pool (assets.PoolShare pool) = Some pool
as_pool _ = None

abbrev pub arms : AssetType → Format TrustLineAsset
arms types.Native = nothing assets.Native
arms types.CreditAlphanum4 = arm alphanum4_of as_alphanum4 (pair code4_format account_id_format)
arms types.CreditAlphanum12 = arm alphanum12_of as_alphanum12 (pair code12_format account_id_format)
arms types.PoolShare = arm pool_of as_pool hash_format

unfoldable pub asset_format : Format TrustLineAsset
asset_format = union number kind_of kind arms

back_alphanum4 : (v : TrustLineAsset) (x : AssetCode4 × AccountId) → as_alphanum4 v ≡ Some x → alphanum4_of x ≡ v
back_alphanum4 (assets.CreditAlphanum4 code issuer) x e = cc
back_alphanum4 _ x e = absurd cc

back_alphanum12 : (v : TrustLineAsset) (x : AssetCode12 × AccountId) → as_alphanum12 v ≡ Some x → alphanum12_of x ≡ v
back_alphanum12 (assets.CreditAlphanum12 code issuer) x e = cc
back_alphanum12 _ x e = absurd cc

back_pool : (v : TrustLineAsset) (x : Hash) → as_pool v ≡ Some x → pool_of x ≡ v
back_pool (assets.PoolShare pool) x e = cc
back_pool _ x e = absurd cc

arms_lawful : (k : AssetType) → IsFormat (arms k)
arms_lawful types.Native = nothing_lawful assets.Native
arms_lawful types.CreditAlphanum4 =
    arm_lawful alphanum4_of as_alphanum4 _ (λ x. refl) back_alphanum4 (pair_lawful _ _ code4_lawful account_id_lawful)
arms_lawful types.CreditAlphanum12 =
    arm_lawful alphanum12_of as_alphanum12 _ (λ x. refl) back_alphanum12 (pair_lawful _ _ code12_lawful account_id_lawful)
arms_lawful types.PoolShare = arm_lawful pool_of as_pool _ (λ x. refl) back_pool hash_lawful

coherent : (k : AssetType) (v : TrustLineAsset) → (arms k).fits v → kind v ≡ k
coherent types.Native v h = ap kind h
coherent types.CreditAlphanum4 v h =
    arm_kind kind types.CreditAlphanum4 alphanum4_of as_alphanum4 (pair code4_format account_id_format) (λ x. refl)
    back_alphanum4 v h
coherent types.CreditAlphanum12 v h =
    arm_kind kind types.CreditAlphanum12 alphanum12_of as_alphanum12 (pair code12_format account_id_format) (λ x. refl)
    back_alphanum12 v h
coherent types.PoolShare v h = arm_kind kind types.PoolShare pool_of as_pool hash_format (λ x. refl) back_pool v h

pub asset_lawful : IsFormat asset_format
unfolding asset_format
asset_lawful = union_lawful number kind_of kind arms (record {
  some = types.Native;
  small = small;
  there = there;
  back = find_kind-back number all;
  bodies = arms_lawful;
  coherent = coherent;
})
