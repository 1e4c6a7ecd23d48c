-- The meanings of single bytes (core sections 5.3 to 5.5).
use Rattle.std.specs.Prelude.{ℕ, ◌==◌, ◌-◌, nat_lt, Option, Some, None, slice_get, if◌then◌else◌}
use Rattle.wasm_spec.specs.declared.opcodes.TheConstants.{COMPARISONS, ARITHMETIC, SIGN_EXTENSIONS}
use Rattle.wasm_spec.specs.declared.types.ValueType.{ValueType}
use Rattle.wasm_spec.specs.declared.types.ValueType.TheVariants.{I32, I64}
use Rattle.wasm_spec.specs.declared.types.Mutability.{Mutability}
use Rattle.wasm_spec.specs.declared.types.Mutability.TheVariants.{Constant, Variable}
use Rattle.wasm_spec.specs.declared.module.ExportKind.{ExportKind}
use Rattle.wasm_spec.specs.declared.module.ExportKind.TheVariants as exported
use Rattle.wasm_spec.specs.declared.instructions.Sign.TheVariants.{Signed, Unsigned}
use Rattle.wasm_spec.specs.declared.instructions.Conversion.TheVariants.{I32Wrap, I64Extend}
use Rattle.wasm_spec.specs.declared.instructions.Numeric.{Numeric}
use Rattle.wasm_spec.specs.declared.instructions.Numeric.TheVariants.{Convert}
use Rattle.wasm_spec.specs.declared.instructions.LoadKind.{LoadKind}
use Rattle.wasm_spec.specs.declared.instructions.LoadKind.TheVariants as load
use Rattle.wasm_spec.specs.declared.instructions.StoreKind.{StoreKind}
use Rattle.wasm_spec.specs.declared.instructions.StoreKind.TheVariants as store
use Rattle.wasm_spec.specs.Code.{BlockType}

-- value types (5.3.1), without floats
abbrev pub value_type_of : ℕ → Option ValueType
value_type_of b = if b == 0x7F then Some I32 else if b == 0x7E then Some I64 else None

-- block types (5.3.2)
abbrev pub block_type_of : ℕ → Option BlockType
block_type_of b =
    if b == 0x40 then Some None else if b == 0x7F then Some (Some I32) else if b == 0x7E then Some (Some I64) else None

-- mutability (5.3.7)
abbrev pub mutability_of : ℕ → Option Mutability
mutability_of b = if b == 0x00 then Some Constant else if b == 0x01 then Some Variable else None

-- kinds of exports (5.5.10)
abbrev pub export_kind_of : ℕ → Option ExportKind
export_kind_of b =
    if b == 0x00 then Some exported.Function else
    if b == 0x01 then Some exported.Table else
    if b == 0x02 then Some exported.Memory else
    if b == 0x03 then Some exported.Global else None

-- loads (5.4.4), without those of floats
abbrev pub load_of : ℕ → Option LoadKind
load_of b =
    if b == 0x28 then Some load.I32 else
    if b == 0x29 then Some load.I64 else
    if b == 0x2C then Some (load.I32From8 Signed) else
    if b == 0x2D then Some (load.I32From8 Unsigned) else
    if b == 0x2E then Some (load.I32From16 Signed) else
    if b == 0x2F then Some (load.I32From16 Unsigned) else
    if b == 0x30 then Some (load.I64From8 Signed) else
    if b == 0x31 then Some (load.I64From8 Unsigned) else
    if b == 0x32 then Some (load.I64From16 Signed) else
    if b == 0x33 then Some (load.I64From16 Unsigned) else
    if b == 0x34 then Some (load.I64From32 Signed) else
    if b == 0x35 then Some (load.I64From32 Unsigned) else None

-- stores (5.4.4), without those of floats
abbrev pub store_of : ℕ → Option StoreKind
store_of b =
    if b == 0x36 then Some store.I32 else
    if b == 0x37 then Some store.I64 else
    if b == 0x3A then Some store.I32To8 else
    if b == 0x3B then Some store.I32To16 else
    if b == 0x3C then Some store.I64To8 else
    if b == 0x3D then Some store.I64To16 else
    if b == 0x3E then Some store.I64To32 else None

-- the sign extensions (core 2.0, section 5.4.7)
abbrev pub sign_extension_of : ℕ → Option Numeric
sign_extension_of b = if nat_lt b 0xC0 then None else slice_get SIGN_EXTENSIONS (b - 0xC0)

-- The numeric instruction of an opcode (5.4.5), without constants and floats. The tables are in the order of the opcodes.
abbrev pub numeric_of : ℕ → Option Numeric
numeric_of b =
    if nat_lt b 0x45 then None else
    if nat_lt b 0x67 then slice_get COMPARISONS (b - 0x45) else
    if nat_lt b 0xA7 then slice_get ARITHMETIC (b - 0x67) else
    if b == 0xA7 then Some (Convert I32Wrap) else
    if b == 0xAC then Some (Convert (I64Extend Signed)) else
    if b == 0xAD then Some (Convert (I64Extend Unsigned)) else
    sign_extension_of b
