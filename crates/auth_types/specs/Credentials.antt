-- Who authorises: the number of a type, and then its fields (XDR file Stellar-transaction, `SorobanCredentialsType`,
-- `SorobanAddressCredentials` and `SorobanCredentials`).
use Rattle.std.specs.Prelude.{◌≡◌, ◌<◌, ◌^◌, List, [], ◌∷◌, ℕ, ℤ, Option, Some, None}
use Rattle.std.proofs.Common.{refl, ap, arith}
use Rattle.xdr_spec.specs.Format.{Format, via, pair, arm, nothing, union, enumeration, find_kind, number32, signed64}
use Rattle.xdr_spec.specs.Laws.{IsFormat}
use Rattle.xdr_spec.proofs.Lemmas.{arm_kind, arm_lawful, enumeration_lawful, find_kind-back, nothing_lawful, number32_lawful}
use Rattle.xdr_spec.proofs.Lemmas.{pair_lawful, signed64_lawful, union_lawful, via_lawful}
use Rattle.value_types.specs.Address.{address_format, address_lawful}
use Rattle.value_types.specs.Formats.{scval_format}
use Rattle.value_types.proofs.Lemmas.{scval_lawful}
use Rattle.value_types.specs.declared.address.ScAddress.{ScAddress}
use Rattle.value_types.specs.declared.value.ScVal.{ScVal}
use Rattle.auth_types.specs.declared.credentials.CredentialsType.{CredentialsType}
use Rattle.auth_types.specs.declared.credentials.CredentialsType.TheVariants as types
use Rattle.auth_types.specs.declared.credentials.AddressCredentials.{AddressCredentials}
use Rattle.auth_types.specs.declared.credentials.Credentials.{Credentials}
use Rattle.auth_types.specs.declared.credentials.Credentials.TheVariants as credentials

-- ---- the types

abbrev pub number : CredentialsType → ℕ
number types.SourceAccount = 0
number types.Address = 1

abbrev pub all : List CredentialsType
all = types.SourceAccount ∷ types.Address ∷ []

abbrev pub kind_of : ℕ → Option CredentialsType
kind_of = find_kind number all

unfoldable pub type_format : Format CredentialsType
type_format = enumeration number kind_of

small : (k : CredentialsType) → number k < 2 ^ 32
small types.SourceAccount = omega arith
small types.Address = omega arith

pub there : (k : CredentialsType) → kind_of (number k) ≡ Some k
there types.SourceAccount = refl
there types.Address = refl

pub type_lawful : IsFormat type_format
unfolding type_format
type_lawful = enumeration_lawful number kind_of types.SourceAccount small there (find_kind-back number all)

-- ---- the credentials of an address

abbrev pub Fields : Type 0
Fields = ScAddress × (ℤ × (ℕ × ScVal))

abbrev pub address_credentials_of : Fields → AddressCredentials
address_credentials_of f = record { address = f.0; nonce = f.1.0; signature_expiration_ledger = f.1.1.0; signature = f.1.1.1 }

abbrev pub address_credentials_fields : AddressCredentials → Fields
address_credentials_fields c = (c.address, (c.nonce, (c.signature_expiration_ledger, c.signature)))

unfoldable pub address_credentials_format : Format AddressCredentials
address_credentials_format =
    via address_credentials_of address_credentials_fields (pair address_format (pair signed64 (pair number32 scval_format)))

pub address_credentials_lawful : IsFormat address_credentials_format
unfolding address_credentials_format
address_credentials_lawful =
    via_lawful address_credentials_of address_credentials_fields _ (λ f. refl) (λ c. refl)
    (pair_lawful _ _ address_lawful (pair_lawful _ _ signed64_lawful (pair_lawful _ _ number32_lawful scval_lawful)))

-- ---- the credentials

abbrev pub kind : Credentials → CredentialsType
kind credentials.SourceAccount = types.SourceAccount
kind (credentials.Address address) = types.Address

abbrev pub address_of : AddressCredentials → Credentials
address_of address = credentials.Address address

abbrev pub as_address : Credentials → Option AddressCredentials
as_address (credentials.Address address) = Some address
as_address _ = None

abbrev pub arms : CredentialsType → Format Credentials
arms types.SourceAccount = nothing credentials.SourceAccount
arms types.Address = arm address_of as_address address_credentials_format

unfoldable pub credentials_format : Format Credentials
credentials_format = union number kind_of kind arms

back_address : (v : Credentials) (x : AddressCredentials) → as_address v ≡ Some x → address_of x ≡ v
back_address (credentials.Address address) x e = cc
back_address _ x e = absurd cc

arms_lawful : (k : CredentialsType) → IsFormat (arms k)
arms_lawful types.SourceAccount = nothing_lawful credentials.SourceAccount
arms_lawful types.Address = arm_lawful address_of as_address _ (λ x. refl) back_address address_credentials_lawful

coherent : (k : CredentialsType) (v : Credentials) → (arms k).fits v → kind v ≡ k
coherent types.SourceAccount v h = ap kind h
coherent types.Address v h =
    arm_kind kind types.Address address_of as_address address_credentials_format (λ x. refl) back_address v h

pub credentials_lawful : IsFormat credentials_format
unfolding credentials_format
credentials_lawful = union_lawful number kind_of kind arms (record {
  some = types.SourceAccount;
  small = small;
  there = there;
  back = find_kind-back number all;
  bodies = arms_lawful;
  coherent = coherent;
})
