-- The errors of traps (own).
use Rattle.wasm_spec.specs.declared.values.TrapKind.{TrapKind}
use Rattle.wasm_spec.specs.declared.values.TrapKind.TheVariants.{Unreachable, OutOfBounds, Arithmetic, IndirectType}
use Rattle.wasm_spec.specs.declared.values.TrapKind.TheVariants.{EmptyElement, CallDepth}
use Rattle.value_types.specs.declared.error.ScErrorCode.{ScErrorCode}
use Rattle.value_types.specs.declared.error.ScErrorCode.TheVariants.{InvalidAction, IndexBounds, ArithDomain, UnexpectedType}
use Rattle.value_types.specs.declared.error.ScErrorCode.TheVariants.{MissingValue, ExceededLimit}
use Rattle.value_types.specs.declared.error.ScError.{ScError}
use Rattle.value_types.specs.declared.error.ScError.TheVariants.{WasmVm}

abbrev pub trap_code : TrapKind → ScErrorCode
trap_code Unreachable = InvalidAction
trap_code OutOfBounds = IndexBounds
trap_code Arithmetic = ArithDomain
trap_code IndirectType = UnexpectedType
trap_code EmptyElement = MissingValue
trap_code CallDepth = ExceededLimit

abbrev pub trap_error : TrapKind → ScError
trap_error kind = WasmVm (trap_code kind)
