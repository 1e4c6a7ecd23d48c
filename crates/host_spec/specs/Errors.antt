-- The errors of functions over values.
use Rattle.value_types.specs.declared.error.ScErrorCode.TheVariants as codes
use Rattle.value_types.specs.declared.error.ScError.{ScError}
use Rattle.value_types.specs.declared.error.ScError.TheVariants as errors

-- a word without meaning, a value of the host's types in a form that the host rejects, bytes that spell no value, a byte above
-- 255, a text that is no symbol
abbrev pub INVALID_VALUE : ScError
INVALID_VALUE = errors.Value codes.InvalidInput

-- a value of another type, or of a type that the host does not hold
abbrev pub OTHER_TYPE : ScError
OTHER_TYPE = errors.Value codes.UnexpectedType

-- a value that is too large or too deep for the host
abbrev pub TOO_LARGE : ScError
TOO_LARGE = errors.Value codes.ExceededLimit

-- an index or range outside an object
abbrev pub OUTSIDE_OBJECT : ScError
OUTSIDE_OBJECT = errors.Object codes.IndexBounds

-- a range outside the linear memory
abbrev pub OUTSIDE_MEMORY : ScError
OUTSIDE_MEMORY = errors.WasmVm codes.IndexBounds

-- a key that is not in a map
abbrev pub ABSENT_KEY : ScError
ABSENT_KEY = errors.Object codes.MissingValue

-- a count that is not the length
abbrev pub OTHER_COUNT : ScError
OTHER_COUNT = errors.Object codes.UnexpectedSize

-- a frame that has shown as many objects as it may
abbrev pub FULL_FRAME : ScError
FULL_FRAME = errors.Object codes.ExceededLimit
