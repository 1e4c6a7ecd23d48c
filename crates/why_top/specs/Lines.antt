-- The exit code and the line of each refusal (own). Where `soroban_cmd` has the same refusal, they are the same as there.
use Rattle.std.specs.Prelude.{ℕ, List, ◌++◌, codes, decimal, string_bytes}
use Rattle.hex.specs.Hex.{encode_lower}
use Rattle.ledger_spec.specs.declared.LedgerWhy.{LedgerWhy}
use Rattle.ledger_spec.specs.declared.LedgerWhy.TheVariants as why
use Rattle.set_place.specs.declared.place.Place.{Place}
use Rattle.why_top.specs.declared.error.WhyErr.{WhyErr}
use Rattle.why_top.specs.declared.error.WhyErr.TheVariants as refusals
use Rattle.xdr_spec.specs.declared.Why.{Why}
use Rattle.xdr_spec.specs.declared.Why.TheVariants.{End, Padding, Boolean, Tag, Limit, Depth, Trailing}

-- the exit code of the program
abbrev pub code_of : WhyErr → ℕ
code_of refusals.Usage = 2
code_of (refusals.Shown text) = 0
code_of (refusals.Fault name) = 4
code_of (refusals.TooLong name) = 6
code_of (refusals.Ledger why at) = 3
code_of (refusals.Verdicts at) = 3
code_of (refusals.NotBase64 name) = 1
code_of (refusals.Malformed at why) = 1
code_of (refusals.Conflict stage a b key) = 1
code_of (refusals.NoPlace place) = 7
code_of refusals.NoMemory = 5

-- the name of a reason
abbrev pub name_of : Why → List ℕ
name_of End = codes ": end\n"
name_of Padding = codes ": padding\n"
name_of Boolean = codes ": bool\n"
name_of Tag = codes ": tag\n"
name_of Limit = codes ": limit\n"
name_of Depth = codes ": depth\n"
name_of Trailing = codes ": trailing\n"

-- the number of the reason why a ledger is refused
abbrev pub number_of : LedgerWhy → List ℕ
number_of why.Xdr = codes "ledger refused: 1 at "
number_of why.Order = codes "ledger refused: 2 at "
number_of why.TtlHash = codes "ledger refused: 3 at "
number_of why.CodeHash = codes "ledger refused: 4 at "
number_of why.Settings = codes "ledger refused: 5 at "
number_of why.SeqEnd = codes "ledger refused: 6 at "

-- the line of a conflict: its stage, its clusters, and the XDR bytes of the key in hex
abbrev pub conflict_line : ℕ → ℕ → ℕ → List ℕ → List ℕ
conflict_line stage a b key =
    codes "conflict: stage " ++ decimal stage ++ codes ", clusters " ++ decimal a ++ codes " and " ++ decimal b ++ codes ", key "
    ++ encode_lower key ++ codes "\n"

-- the line of a place that a set does not have
abbrev pub place_line : Place → List ℕ
place_line place =
    codes "no such place: stage " ++ decimal place.stage ++ codes ", cluster " ++ decimal place.cluster ++ codes ", place "
    ++ decimal place.transaction ++ codes "\n"

-- the line of a refusal
abbrev pub line_of : WhyErr → List ℕ
line_of refusals.Usage = codes "usage\n"
line_of (refusals.Shown text) = string_bytes text
line_of (refusals.Fault name) = codes "fault on " ++ name ++ codes "\n"
line_of (refusals.TooLong name) = codes "too long: " ++ name ++ codes "\n"
line_of (refusals.Ledger why at) = number_of why ++ decimal at ++ codes "\n"
line_of (refusals.Verdicts at) = codes "verdicts refused at " ++ decimal at ++ codes "\n"
line_of (refusals.NotBase64 name) = codes "not base64: " ++ name ++ codes "\n"
line_of (refusals.Malformed at why) = codes "refused at " ++ decimal at ++ name_of why
line_of (refusals.Conflict stage a b key) = conflict_line stage a b key.items
line_of (refusals.NoPlace place) = place_line place
line_of refusals.NoMemory = codes "no memory\n"
