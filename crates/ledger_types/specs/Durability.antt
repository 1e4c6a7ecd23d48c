-- The durability of contract data (XDR file Stellar-ledger-entries, `ContractDataDurability`).
use Rattle.std.specs.Prelude.{◌≡◌, ◌<◌, ◌^◌, List, [], ◌∷◌, ℕ, Option, Some}
use Rattle.std.proofs.Common.{refl, arith}
use Rattle.xdr_spec.specs.Format.{Format, enumeration, find_kind}
use Rattle.xdr_spec.specs.Laws.{IsFormat}
use Rattle.xdr_spec.proofs.Lemmas.{enumeration_lawful, find_kind-back}
use Rattle.ledger_types.specs.declared.durability.Durability.{Durability}
use Rattle.ledger_types.specs.declared.durability.Durability.TheVariants.{Temporary, Persistent}

abbrev pub number : Durability → ℕ
number Temporary = 0
number Persistent = 1

abbrev pub all : List Durability
all = Temporary ∷ Persistent ∷ []

abbrev pub kind_of : ℕ → Option Durability
kind_of = find_kind number all

unfoldable pub durability_format : Format Durability
durability_format = enumeration number kind_of

small : (d : Durability) → number d < 2 ^ 32
small Temporary = omega arith
small Persistent = omega arith

pub there : (d : Durability) → kind_of (number d) ≡ Some d
there Temporary = refl
there Persistent = refl

pub durability_lawful : IsFormat durability_format
unfolding durability_format
durability_lawful = enumeration_lawful number kind_of Temporary small there (find_kind-back number all)
