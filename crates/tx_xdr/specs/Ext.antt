-- What follows a transaction's operations (XDR file Stellar-transaction, the `ext` of `Transaction`): 0, or 1 and what is
-- declared.
use Rattle.std.specs.Prelude.{◌≡◌, ◌<◌, ◌^◌, List, [], ◌∷◌, ℕ, Option, Some, None}
use Rattle.std.proofs.Common.{refl, ap, arith}
use Rattle.xdr_spec.specs.Format.{Format, arm, nothing, union, enumeration, find_kind}
use Rattle.xdr_spec.specs.Laws.{IsFormat}
use Rattle.xdr_spec.proofs.Lemmas.{arm_kind, arm_lawful, enumeration_lawful, find_kind-back, nothing_lawful, union_lawful}
use Rattle.tx_xdr.specs.Soroban.{soroban_format, soroban_lawful}
use Rattle.tx_xdr.specs.declared.transaction.SorobanData.{SorobanData}
use Rattle.tx_xdr.specs.declared.transaction.TransactionExtType.{TransactionExtType}
use Rattle.tx_xdr.specs.declared.transaction.TransactionExtType.TheVariants as types
use Rattle.tx_xdr.specs.declared.transaction.TransactionExt.{TransactionExt}
use Rattle.tx_xdr.specs.declared.transaction.TransactionExt.TheVariants as exts

abbrev pub number : TransactionExtType → ℕ
number types.None = 0
number types.Soroban = 1

abbrev pub all : List TransactionExtType
all = types.None ∷ types.Soroban ∷ []

abbrev pub type_of : ℕ → Option TransactionExtType
type_of = find_kind number all

unfoldable pub type_format : Format TransactionExtType
type_format = enumeration number type_of

small : (k : TransactionExtType) → number k < 2 ^ 32
small types.None = omega arith
small types.Soroban = omega arith

there : (k : TransactionExtType) → type_of (number k) ≡ Some k
there types.None = refl
there types.Soroban = refl

pub type_lawful : IsFormat type_format
unfolding type_format
type_lawful = enumeration_lawful number type_of types.None small there (find_kind-back number all)

abbrev pub kind : TransactionExt → TransactionExtType
kind exts.None = types.None
kind (exts.Soroban soroban) = types.Soroban

abbrev pub soroban_ext : SorobanData → TransactionExt
soroban_ext soroban = exts.Soroban soroban

abbrev pub as_soroban : TransactionExt → Option SorobanData
as_soroban (exts.Soroban soroban) = Some soroban
as_soroban _ = None

abbrev pub arms : TransactionExtType → Format TransactionExt
arms types.None = nothing exts.None
arms types.Soroban = arm soroban_ext as_soroban soroban_format

unfoldable pub ext_format : Format TransactionExt
ext_format = union number type_of kind arms

back_soroban : (v : TransactionExt) (x : SorobanData) → as_soroban v ≡ Some x → soroban_ext x ≡ v
back_soroban (exts.Soroban soroban) x e = cc
back_soroban _ x e = absurd cc

arms_lawful : (k : TransactionExtType) → IsFormat (arms k)
arms_lawful types.None = nothing_lawful exts.None
arms_lawful types.Soroban = arm_lawful soroban_ext as_soroban _ (λ x. refl) back_soroban soroban_lawful

coherent : (k : TransactionExtType) (v : TransactionExt) → (arms k).fits v → kind v ≡ k
coherent types.None v h = ap kind h
coherent types.Soroban v h = arm_kind kind types.Soroban soroban_ext as_soroban soroban_format (λ x. refl) back_soroban v h

pub ext_lawful : IsFormat ext_format
unfolding ext_format
ext_lawful = union_lawful number type_of kind arms (record {
  some = types.None;
  small = small;
  there = there;
  back = find_kind-back number all;
  bodies = arms_lawful;
  coherent = coherent;
})
