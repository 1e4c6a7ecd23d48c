-- The tags of words (CAP-0046-01, with the tag of muxed addresses).
use Rattle.std.specs.Prelude.{ℕ, List, [], ◌∷◌, Option}
use Rattle.xdr_spec.specs.Format.{find_kind}
use Rattle.host_spec.specs.declared.tag.Tag.{Tag}
use Rattle.host_spec.specs.declared.tag.Tag.TheVariants as tags

abbrev pub number : Tag → ℕ
number tags.False = 0
number tags.True = 1
number tags.Void = 2
number tags.Error = 3
number tags.U32 = 4
number tags.I32 = 5
number tags.U64Small = 6
number tags.I64Small = 7
number tags.TimepointSmall = 8
number tags.DurationSmall = 9
number tags.U128Small = 10
number tags.I128Small = 11
number tags.U256Small = 12
number tags.I256Small = 13
number tags.SymbolSmall = 14
number tags.U64Object = 64
number tags.I64Object = 65
number tags.TimepointObject = 66
number tags.DurationObject = 67
number tags.U128Object = 68
number tags.I128Object = 69
number tags.U256Object = 70
number tags.I256Object = 71
number tags.BytesObject = 72
number tags.StringObject = 73
number tags.SymbolObject = 74
number tags.VecObject = 75
number tags.MapObject = 76
number tags.AddressObject = 77
number tags.MuxedAddressObject = 78

abbrev pub all : List Tag
all = tags.False ∷ tags.True ∷ tags.Void ∷ tags.Error ∷ tags.U32 ∷ tags.I32 ∷ tags.U64Small ∷ tags.I64Small ∷ tags.TimepointSmall
    ∷ tags.DurationSmall ∷ tags.U128Small ∷ tags.I128Small ∷ tags.U256Small ∷ tags.I256Small ∷ tags.SymbolSmall ∷ tags.U64Object
    ∷ tags.I64Object ∷ tags.TimepointObject ∷ tags.DurationObject ∷ tags.U128Object ∷ tags.I128Object ∷ tags.U256Object
    ∷ tags.I256Object ∷ tags.BytesObject ∷ tags.StringObject ∷ tags.SymbolObject ∷ tags.VecObject ∷ tags.MapObject
    ∷ tags.AddressObject ∷ tags.MuxedAddressObject ∷ []

-- the tag of this number
abbrev pub tag_of : ℕ → Option Tag
tag_of = find_kind number all
