-- The types of ledger entries (XDR file Stellar-ledger-entries, `LedgerEntryType`).
use Rattle.std.specs.Prelude.{◌≡◌, ◌<◌, ◌^◌, List, [], ◌∷◌, ℕ, Option, Some}
use Rattle.std.proofs.Common.{refl, arith}
use Rattle.xdr_spec.specs.Format.{Format, enumeration, find_kind}
use Rattle.xdr_spec.specs.Laws.{IsFormat}
use Rattle.xdr_spec.proofs.Lemmas.{enumeration_lawful, find_kind-back}
use Rattle.ledger_types.specs.declared.entry_type.LedgerEntryType.{LedgerEntryType}
use Rattle.ledger_types.specs.declared.entry_type.LedgerEntryType.TheVariants.{Account, Trustline, Offer, Data, ClaimableBalance}
use Rattle.ledger_types.specs.declared.entry_type.LedgerEntryType.TheVariants.{LiquidityPool, ContractData, ContractCode, Ttl}

abbrev pub number : LedgerEntryType → ℕ
number Account = 0
number Trustline = 1
number Offer = 2
number Data = 3
number ClaimableBalance = 4
number LiquidityPool = 5
number ContractData = 6
number ContractCode = 7
number Ttl = 9

abbrev pub all : List LedgerEntryType
all = Account ∷ Trustline ∷ Offer ∷ Data ∷ ClaimableBalance ∷ LiquidityPool ∷ ContractData ∷ ContractCode ∷ Ttl ∷ []

abbrev pub kind_of : ℕ → Option LedgerEntryType
kind_of = find_kind number all

unfoldable pub type_format : Format LedgerEntryType
type_format = enumeration number kind_of

pub small : (k : LedgerEntryType) → number k < 2 ^ 32
small Account = omega arith
small Trustline = omega arith
small Offer = omega arith
small Data = omega arith
small ClaimableBalance = omega arith
small LiquidityPool = omega arith
small ContractData = omega arith
small ContractCode = omega arith
small Ttl = omega arith

pub there : (k : LedgerEntryType) → kind_of (number k) ≡ Some k
there Account = refl
there Trustline = refl
there Offer = refl
there Data = refl
there ClaimableBalance = refl
there LiquidityPool = refl
there ContractData = refl
there ContractCode = refl
there Ttl = refl

pub type_lawful : IsFormat type_format
unfolding type_format
type_lawful = enumeration_lawful number kind_of Account small there (find_kind-back number all)
