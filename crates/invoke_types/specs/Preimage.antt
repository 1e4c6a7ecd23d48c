-- What the id of a contract is made of: the number of a kind, and then an address and a salt, or an asset (XDR file
-- Stellar-transaction, `ContractIDPreimage`).
use Rattle.std.specs.Prelude.{◌≡◌, ◌<◌, ◌^◌, List, [], ◌∷◌, ℕ, Option, Some, None}
use Rattle.std.proofs.Common.{refl, arith}
use Rattle.xdr_spec.specs.Format.{Format, pair, arm, union, enumeration, find_kind}
use Rattle.xdr_spec.specs.Laws.{IsFormat}
use Rattle.xdr_spec.proofs.Lemmas.{arm_kind, arm_lawful, enumeration_lawful, find_kind-back, pair_lawful, union_lawful}
use Rattle.value_types.specs.Hash.{hash_format, hash_lawful}
use Rattle.value_types.specs.Address.{address_format, address_lawful}
use Rattle.value_types.specs.declared.hash.Hash.{Hash}
use Rattle.value_types.specs.declared.address.ScAddress.{ScAddress}
use Rattle.invoke_types.specs.Asset.{asset_format, asset_lawful}
use Rattle.invoke_types.specs.declared.asset.Asset.{Asset}
use Rattle.invoke_types.specs.declared.preimage.PreimageType.{PreimageType}
use Rattle.invoke_types.specs.declared.preimage.PreimageType.TheVariants as types
use Rattle.invoke_types.specs.declared.preimage.Preimage.{Preimage}
use Rattle.invoke_types.specs.declared.preimage.Preimage.TheVariants as preimages

-- ---- the kinds

abbrev pub number : PreimageType → ℕ
number types.FromAddress = 0
number types.FromAsset = 1

abbrev pub all : List PreimageType
all = types.FromAddress ∷ types.FromAsset ∷ []

abbrev pub kind_of : ℕ → Option PreimageType
kind_of = find_kind number all

unfoldable pub type_format : Format PreimageType
type_format = enumeration number kind_of

small : (k : PreimageType) → number k < 2 ^ 32
small types.FromAddress = omega arith
small types.FromAsset = omega arith

pub there : (k : PreimageType) → kind_of (number k) ≡ Some k
there types.FromAddress = refl
there types.FromAsset = refl

pub type_lawful : IsFormat type_format
unfolding type_format
type_lawful = enumeration_lawful number kind_of types.FromAddress small there (find_kind-back number all)

-- ---- the preimages

abbrev pub kind : Preimage → PreimageType
kind (preimages.FromAddress address salt) = types.FromAddress
kind (preimages.FromAsset asset) = types.FromAsset

abbrev pub from_address_of : ScAddress × Hash → Preimage
from_address_of x = preimages.FromAddress x.0 x.1

abbrev pub as_from_address : Preimage → Option (ScAddress × Hash)
as_from_address (preimages.FromAddress address salt) = Some (address, salt)
as_from_address _ = None

abbrev pub from_asset_of : Asset → Preimage
from_asset_of asset = preimages.FromAsset asset

abbrev pub as_from_asset : Preimage → Option Asset
as_from_asset (preimages.FromAsset asset) = Some asset
as_from_asset _ = None

abbrev pub arms : PreimageType → Format Preimage
arms types.FromAddress = arm from_address_of as_from_address (pair address_format hash_format)
arms types.FromAsset = arm from_asset_of as_from_asset asset_format

unfoldable pub preimage_format : Format Preimage
preimage_format = union number kind_of kind arms

back_from_address : (v : Preimage) (x : ScAddress × Hash) → as_from_address v ≡ Some x → from_address_of x ≡ v
back_from_address (preimages.FromAddress address salt) x e = cc
back_from_address _ x e = absurd cc

back_from_asset : (v : Preimage) (x : Asset) → as_from_asset v ≡ Some x → from_asset_of x ≡ v
back_from_asset (preimages.FromAsset asset) x e = cc
back_from_asset _ x e = absurd cc

arms_lawful : (k : PreimageType) → IsFormat (arms k)
arms_lawful types.FromAddress =
    arm_lawful from_address_of as_from_address _ (λ x. refl) back_from_address (pair_lawful _ _ address_lawful hash_lawful)
arms_lawful types.FromAsset = arm_lawful from_asset_of as_from_asset _ (λ x. refl) back_from_asset asset_lawful

coherent : (k : PreimageType) (v : Preimage) → (arms k).fits v → kind v ≡ k
coherent types.FromAddress v h =
    arm_kind kind types.FromAddress from_address_of as_from_address (pair address_format hash_format)
    (λ x. refl) back_from_address v h
coherent types.FromAsset v h =
    arm_kind kind types.FromAsset from_asset_of as_from_asset asset_format (λ x. refl) back_from_asset v h

pub preimage_lawful : IsFormat preimage_format
unfolding preimage_format
preimage_lawful = union_lawful number kind_of kind arms (record {
  some = types.FromAddress;
  small = small;
  there = there;
  back = find_kind-back number all;
  bodies = arms_lawful;
  coherent = coherent;
})
