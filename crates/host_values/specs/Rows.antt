-- The rows of the host interface that the code calls, in groups (own).
use Rattle.std.specs.Prelude.{ℕ, List, Option, Some, None, Result}
use Rattle.budget_meter.specs.Meter.{Meter}
use Rattle.value_types.specs.Datum.{Datum}
use Rattle.host_interface.specs.declared.import.HostImport.{HostImport}
use Rattle.host_interface.specs.declared.import.HostImport.TheVariants as imports
use Rattle.host_interface.specs.declared.kinds.ArgKind.{ArgKind}
use Rattle.host_spec.specs.declared.error.ValueErr.{ValueErr}
use Rattle.host_spec.specs.Acts.{State, state}
use Rattle.host_spec.specs.Calls.{Rule}
use Rattle.host_spec.specs.Indices.{arguments_of}
use Rattle.host_spec.specs.ValueFunctions.{value_rule}
use Rattle.host_frame.specs.declared.answer.Answer.{Answer}
use Rattle.host_frame.specs.Answered.{AnswersFrom}

-- a body that follows this rule
abbrev pub AnswersBy : Result Answer ValueErr → (ks : List ArgKind) → Option (Rule ks) → List ℕ → State → State → Type 0
AnswersBy r ks None words w u = ⊥
AnswersBy r ks (Some rule) words w u = AnswersFrom r ks rule words w u

-- a body that follows the rule of a function over values
abbrev pub AnswersRow : Result Answer ValueErr → HostImport → List ℕ → State → State → Type 0
AnswersRow r i words w u = AnswersBy r (arguments_of i) (value_rule i) words w u

-- such a body, if it does not use the memory
abbrev pub AnswersApart : Result Answer ValueErr → HostImport → List ℕ → List Datum → Meter → Meter → Type 0
AnswersApart r i words shown old new = (memory : List ℕ) → AnswersRow r i words (state shown memory old) (state shown memory new)

-- The group of a function in the code: functions of as many words, which one `match` calls. Another function has the number 0.
abbrev pub group_of : HostImport → ℕ
group_of imports.MapNew = 1
group_of imports.VecNew = 1
group_of imports.BytesNew = 1
group_of imports.ObjFromU64 = 2
group_of imports.ObjToU64 = 2
group_of imports.ObjFromI64 = 2
group_of imports.ObjToI64 = 2
group_of imports.ObjToU128Hi64 = 2
group_of imports.ObjToU128Lo64 = 2
group_of imports.ObjToI128Hi64 = 2
group_of imports.ObjToI128Lo64 = 2
group_of imports.TimepointObjFromU64 = 2
group_of imports.TimepointObjToU64 = 2
group_of imports.DurationObjFromU64 = 2
group_of imports.DurationObjToU64 = 2
group_of imports.GetAddressFromMuxedAddress = 2
group_of imports.GetIdFromMuxedAddress = 2
group_of imports.MapLen = 3
group_of imports.MapKeys = 3
group_of imports.MapValues = 3
group_of imports.VecLen = 3
group_of imports.VecPopFront = 3
group_of imports.VecPopBack = 3
group_of imports.VecFront = 3
group_of imports.VecBack = 3
group_of imports.SerializeToBytes = 4
group_of imports.DeserializeFromBytes = 4
group_of imports.BytesLen = 4
group_of imports.BytesPop = 4
group_of imports.BytesFront = 4
group_of imports.BytesBack = 4
group_of imports.StringLen = 4
group_of imports.SymbolLen = 4
group_of imports.StringToBytes = 4
group_of imports.BytesToString = 4
group_of imports.ComputeHashSha256 = 4
group_of imports.ObjFromU128Pieces = 5
group_of imports.ObjFromI128Pieces = 5
group_of imports.ObjCmp = 5
group_of imports.MapGet = 6
group_of imports.MapDel = 6
group_of imports.MapHas = 6
group_of imports.MapKeyByPos = 6
group_of imports.MapValByPos = 6
group_of imports.VecGet = 6
group_of imports.VecDel = 6
group_of imports.VecPushFront = 6
group_of imports.VecPushBack = 6
group_of imports.VecAppend = 6
group_of imports.VecFirstIndexOf = 6
group_of imports.VecLastIndexOf = 6
group_of imports.BytesGet = 7
group_of imports.BytesDel = 7
group_of imports.BytesPush = 7
group_of imports.BytesAppend = 7
group_of imports.BytesNewFromLinearMemory = 8
group_of imports.StringNewFromLinearMemory = 8
group_of imports.SymbolNewFromLinearMemory = 8
group_of imports.MapPut = 9
group_of imports.VecPut = 9
group_of imports.VecInsert = 9
group_of imports.VecSlice = 9
group_of imports.BytesPut = 9
group_of imports.BytesInsert = 9
group_of imports.BytesSlice = 9
group_of imports.BytesCopyToLinearMemory = 10
group_of imports.StringCopyToLinearMemory = 10
group_of imports.SymbolCopyToLinearMemory = 10
group_of imports.BytesCopyFromLinearMemory = 10
group_of imports.VecUnpackToLinearMemory = 11
group_of imports.VecNewFromLinearMemory = 12
group_of _ = 0
