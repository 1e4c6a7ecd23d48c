-- The versions of a ledger's file (own).
use Rattle.std.specs.Prelude.{◌≡◌, ◌<◌, ◌^◌, List, [], ◌∷◌, ℕ, Option, Some}
use Rattle.std.proofs.Common.{refl, arith}
use Rattle.xdr_spec.specs.Format.{Format, enumeration, find_kind, nothing, number32}
use Rattle.xdr_spec.specs.Laws.{IsFormat}
use Rattle.xdr_spec.proofs.Lemmas.{enumeration_lawful, find_kind-back, nothing_lawful, number32_lawful}
use Rattle.file_version.specs.declared.version.FileVersion.{FileVersion}
use Rattle.file_version.specs.declared.version.FileVersion.TheVariants.{V1, V2}

abbrev pub number : FileVersion → ℕ
number V1 = 1
number V2 = 2

abbrev pub all : List FileVersion
all = V1 ∷ V2 ∷ []

abbrev pub version_of : ℕ → Option FileVersion
version_of = find_kind number all

unfoldable pub version_format : Format FileVersion
version_format = enumeration number version_of

pub small : (v : FileVersion) → number v < 2 ^ 32
small V1 = omega arith
small V2 = omega arith

pub there : (v : FileVersion) → version_of (number v) ≡ Some v
there V1 = refl
there V2 = refl

pub version_lawful : IsFormat version_format
unfolding version_format
version_lawful = enumeration_lawful number version_of V2 small there (find_kind-back number all)

-- A file of version 1 does not have the protocol, which is 23.
abbrev pub protocol_format : FileVersion → Format ℕ
protocol_format V1 = nothing 23
protocol_format V2 = number32

pub protocol_lawful : (v : FileVersion) → IsFormat (protocol_format v)
protocol_lawful V1 = nothing_lawful 23
protocol_lawful V2 = number32_lawful
