-- An asset: the number of a type, and the body of that type (XDR file Stellar-ledger-entries, `AssetType` and `Asset`).
use Rattle.std.specs.Prelude.{◌≡◌, Bool, true, false, Option, Some, None}
use Rattle.std.proofs.Common.{refl, ap}
use Rattle.xdr_spec.specs.Format.{Format, pair, arm, nothing, never, union_among}
use Rattle.xdr_spec.specs.Laws.{IsFormat}
use Rattle.xdr_spec.proofs.Lemmas.{arm_kind, arm_lawful, find_kind-back, nothing_lawful, pair_lawful, some_kinds_lawful}
use Rattle.value_types.specs.AccountId.{account_id_format, account_id_lawful}
use Rattle.value_types.specs.declared.account_id.AccountId.{AccountId}
use Rattle.ledger_types.specs.AssetCode.{code4_format, code4_lawful, code12_format, code12_lawful}
use Rattle.ledger_types.specs.declared.asset.AssetCode4.{AssetCode4}
use Rattle.ledger_types.specs.declared.asset.AssetCode12.{AssetCode12}
use Rattle.ledger_types.specs.TrustLineAsset.{number, all, kind_of, small, there}
use Rattle.ledger_types.specs.declared.asset.AssetType.{AssetType}
use Rattle.ledger_types.specs.declared.asset.AssetType.TheVariants as types
use Rattle.invoke_types.specs.declared.asset.Asset.{Asset}
use Rattle.invoke_types.specs.declared.asset.Asset.TheVariants as assets

-- every type but shares of pools
abbrev pub is_asset : AssetType → Bool
is_asset types.Native = true
is_asset types.CreditAlphanum4 = true
is_asset types.CreditAlphanum12 = true
is_asset types.PoolShare = false

abbrev pub kind : Asset → AssetType
kind assets.Native = types.Native
kind (assets.CreditAlphanum4 code issuer) = types.CreditAlphanum4
kind (assets.CreditAlphanum12 code issuer) = types.CreditAlphanum12

abbrev pub alphanum4_of : AssetCode4 × AccountId → Asset
alphanum4_of c = assets.CreditAlphanum4 c.0 c.1

abbrev pub as_alphanum4 : Asset → Option (AssetCode4 × AccountId)
as_alphanum4 (assets.CreditAlphanum4 code issuer) = Some (code, issuer)
as_alphanum4 _ = None

abbrev pub alphanum12_of : AssetCode12 × AccountId → Asset
alphanum12_of c = assets.CreditAlphanum12 c.0 c.1

abbrev pub as_alphanum12 : Asset → Option (AssetCode12 × AccountId)
as_alphanum12 (assets.CreditAlphanum12 code issuer) = Some (code, issuer)
as_alphanum12 _ = None

abbrev pub arms : AssetType → Format Asset
arms types.Native = nothing assets.Native
arms types.CreditAlphanum4 = arm alphanum4_of as_alphanum4 (pair code4_format account_id_format)
arms types.CreditAlphanum12 = arm alphanum12_of as_alphanum12 (pair code12_format account_id_format)
arms types.PoolShare = never

unfoldable pub asset_format : Format Asset
asset_format = union_among is_asset number kind_of kind arms

back_alphanum4 : (v : Asset) (x : AssetCode4 × AccountId) → as_alphanum4 v ≡ Some x → alphanum4_of x ≡ v
back_alphanum4 (assets.CreditAlphanum4 code issuer) x e = cc
back_alphanum4 _ x e = absurd cc

back_alphanum12 : (v : Asset) (x : AssetCode12 × AccountId) → as_alphanum12 v ≡ Some x → alphanum12_of x ≡ v
back_alphanum12 (assets.CreditAlphanum12 code issuer) x e = cc
back_alphanum12 _ x e = absurd cc

arms_lawful : (k : AssetType) → is_asset k ≡ true → IsFormat (arms k)
arms_lawful types.Native e = nothing_lawful assets.Native
arms_lawful types.CreditAlphanum4 e =
    arm_lawful alphanum4_of as_alphanum4 _ (λ x. refl) back_alphanum4 (pair_lawful _ _ code4_lawful account_id_lawful)
arms_lawful types.CreditAlphanum12 e =
    arm_lawful alphanum12_of as_alphanum12 _ (λ x. refl) back_alphanum12 (pair_lawful _ _ code12_lawful account_id_lawful)
arms_lawful types.PoolShare e = absurd cc

coherent : (k : AssetType) (v : Asset) → is_asset k ≡ true → (arms k).fits v → kind v ≡ k
coherent types.Native v e h = ap kind h
coherent types.CreditAlphanum4 v e h =
    arm_kind kind types.CreditAlphanum4 alphanum4_of as_alphanum4 (pair code4_format account_id_format)
    (λ x. refl) back_alphanum4 v h
coherent types.CreditAlphanum12 v e h =
    arm_kind kind types.CreditAlphanum12 alphanum12_of as_alphanum12 (pair code12_format account_id_format)
    (λ x. refl) back_alphanum12 v h
coherent types.PoolShare v e h = absurd cc

pub asset_lawful : IsFormat asset_format
unfolding asset_format
asset_lawful = some_kinds_lawful is_asset number kind_of kind arms (record {
  some = types.Native;
  some_allowed = refl;
  small = small;
  there = there;
  back = find_kind-back number all;
  bodies = arms_lawful;
  coherent = coherent;
})
