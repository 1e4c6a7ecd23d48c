-- The reader as functions on lists of bytes (after core section 5): each returns a value and the bytes after it, or None.
-- ModuleLaws proves that module_at returns exactly the modules of ModuleBytes, so no reader of the main theorems has to believe
-- this page.
use Rattle.std.specs.Prelude.{ℕ, zero, suc, ◌+◌, ◌-◌, ◌*◌, ◌^◌, Bool, false, ◌==◌, nat_lt, nat_le, List, [], ◌∷◌, length, take}
use Rattle.std.specs.Prelude.{drop, Option, Some, None, if◌then◌else◌}
use Rattle.std.specs.Str.{is_utf8}
use Rattle.wasm_spec.specs.declared.types.ValueType.{ValueType}
use Rattle.wasm_spec.specs.declared.types.FuncType.{FuncType}
use Rattle.wasm_spec.specs.declared.types.ResizableLimits.{ResizableLimits}
use Rattle.wasm_spec.specs.declared.types.TableType.{TableType}
use Rattle.wasm_spec.specs.declared.types.Mutability.{Mutability}
use Rattle.wasm_spec.specs.declared.instructions.MemArg.{MemArg}
use Rattle.wasm_spec.specs.declared.instructions.Plain.{Plain}
use Rattle.wasm_spec.specs.declared.instructions.Plain.TheVariants as op
use Rattle.wasm_spec.specs.declared.instructions.Control.{Control}
use Rattle.wasm_spec.specs.declared.instructions.Control.TheVariants as jump
use Rattle.wasm_spec.specs.declared.module.Import.{Import}
use Rattle.wasm_spec.specs.declared.module.Locals.{Locals}
use Rattle.wasm_spec.specs.declared.module.Function.{Function}
use Rattle.wasm_spec.specs.declared.module.Global.{Global}
use Rattle.wasm_spec.specs.declared.module.ExportKind.{ExportKind}
use Rattle.wasm_spec.specs.declared.module.Export.{Export}
use Rattle.wasm_spec.specs.declared.module.Element.{Element}
use Rattle.wasm_spec.specs.declared.module.Data.{Data}
use Rattle.wasm_spec.specs.declared.module.Module.{Module}
use Rattle.wasm_spec.specs.Code.{Code, end, plain, control, block, loop, choose, BlockType}
use Rattle.wasm_spec.specs.Opcodes.{value_type_of, block_type_of, mutability_of, export_kind_of, load_of, store_of, numeric_of}
use Rattle.wasm_spec.specs.Binary.{MAGIC, MOST_NESTED, locals_count}
use Rattle.wasm_spec.specs.Typing.{◌>>=◌}
use Rattle.wasm_read.specs.declared.head.Head.{Head}
use Rattle.wasm_read.specs.declared.head.Head.TheVariants as head

abbrev pub Reader : Type 0 → Type 0
Reader A = List ℕ → Option (A × List ℕ)

-- general combinators

abbrev pub byte_at : Reader ℕ
byte_at [] = None
byte_at (b ∷ bs) = Some (b, bs)

abbrev pub single_at : {A : Type 0} → (ℕ → Option A) → Reader A
single_at meaning [] = None
single_at meaning (b ∷ bs) = meaning b >>= λ x. Some (x, bs)

abbrev pub behind_at : {A : Type 0} → ℕ → Reader A → Reader A
behind_at k read [] = None
behind_at k read (b ∷ bs) = if b == k then read bs else None

abbrev pub both_at : {A B : Type 0} → Reader A → Reader B → Reader (A × B)
both_at p q bs = p bs >>= λ x. q x.1 >>= λ y. Some ((x.0, y.0), y.1)

abbrev pub via_at : {A B : Type 0} → (A → B) → Reader A → Reader B
via_at f read bs = read bs >>= λ x. Some (f x.0, x.1)

-- integers

abbrev pub leb_at : (ℕ → ℕ → Option ℕ) → ℕ → Reader ℕ
leb_at last bits [] = None
leb_at last bits (b ∷ bs) =
    if nat_lt b 128 then (last bits b >>= λ n. Some (n, bs))
    else if nat_lt 7 bits then (leb_at last (bits - 7) bs >>= λ m. Some (128 * m.0 + (b - 128), m.1)) else None

abbrev pub unsigned_last : ℕ → ℕ → Option ℕ
unsigned_last bits b = if nat_lt b (2 ^ bits) then Some b else None

abbrev pub signed_last : ℕ → ℕ → Option ℕ
signed_last bits b =
    if nat_lt b 64 then (if nat_lt b (2 ^ (bits - 1)) then Some b else None)
    else if nat_lt (127 - b) (2 ^ (bits - 1)) then Some (2 ^ bits + b - 128) else None

unfoldable pub u32_at : Reader ℕ
u32_at = leb_at unsigned_last 32

unfoldable pub integer_at : ℕ → Reader ℕ
integer_at bits = leb_at signed_last bits

-- vectors and names

abbrev pub row_at : {A : Type 0} → Reader A → ℕ → Reader (List A)
row_at read zero bs = Some ([], bs)
row_at read (suc n) bs = read bs >>= λ x. row_at read n x.1 >>= λ xs. Some (x.0 ∷ xs.0, xs.1)

unfoldable pub vector_at : {A : Type 0} → Reader A → Reader (List A)
vector_at read bs = u32_at bs >>= λ n. row_at read n.0 n.1

abbrev pub split_at : ℕ → Reader (List ℕ)
split_at n bs = if nat_le n (length bs) then Some (take n bs, drop n bs) else None

unfoldable pub bytes_at : Reader (List ℕ)
bytes_at bs = u32_at bs >>= λ n. split_at n.0 n.1

unfoldable pub name_at : Reader (List ℕ)
name_at bs = bytes_at bs >>= λ x. if is_utf8 x.0 then Some (x.0, x.1) else None

-- the value, if no bytes are left
abbrev pub whole : {A : Type 0} → A × List ℕ → Option A
whole (x, []) = Some x
whole (x, b ∷ bs) = None

unfoldable pub sized_at : {A : Type 0} → Reader A → Reader A
sized_at read bs = bytes_at bs >>= λ c. read c.0 >>= whole >>= λ x. Some (x, c.1)

-- types

abbrev pub value_type_at : Reader ValueType
value_type_at = single_at value_type_of

abbrev pub func_type : List ValueType × List ValueType → FuncType
func_type x = record { params = x.0; results = x.1 }

unfoldable pub func_type_at : Reader FuncType
func_type_at = via_at func_type (behind_at 0x60 (both_at (vector_at value_type_at) (vector_at value_type_at)))

abbrev pub limits : ℕ → Option ℕ → ResizableLimits
limits min most = record { min = min; max = most }

abbrev pub limits_behind : ℕ → Reader ResizableLimits
limits_behind b bs =
    if b == 0x00 then via_at (λ min. limits min None) u32_at bs else
    if b == 0x01 then via_at (λ (x : ℕ × ℕ). limits x.0 (Some x.1)) (both_at u32_at u32_at) bs else None

unfoldable pub limits_at : Reader ResizableLimits
limits_at [] = None
limits_at (b ∷ bs) = limits_behind b bs

abbrev pub table_of : ResizableLimits → TableType
table_of l = record { limits = l }

unfoldable pub table_at : Reader TableType
table_at = via_at table_of (behind_at 0x70 limits_at)

-- instructions

abbrev pub mem_arg : ℕ × ℕ → MemArg
mem_arg x = record { align = x.0; offset = x.1 }

unfoldable pub mem_arg_at : Reader MemArg
mem_arg_at = via_at mem_arg (both_at u32_at u32_at)

-- each reads the immediates of the opcode b

unfoldable pub parametric_at : ℕ → Reader Plain
parametric_at b bs = if b == 0x01 then Some (op.Nop, bs) else if b == 0x1A then Some (op.Drop, bs) else if b == 0x1B
    then Some (op.Select, bs) else None

unfoldable pub variable_at : ℕ → Reader Plain
variable_at b bs =
    if b == 0x20 then via_at op.LocalGet u32_at bs else
    if b == 0x21 then via_at op.LocalSet u32_at bs else
    if b == 0x22 then via_at op.LocalTee u32_at bs else
    if b == 0x23 then via_at op.GlobalGet u32_at bs else
    if b == 0x24 then via_at op.GlobalSet u32_at bs else None

-- the value, after a byte 0
abbrev pub zero_at : {A : Type 0} → A → Reader A
zero_at x = behind_at 0x00 (λ bs. Some (x, bs))

unfoldable pub memory_at : ℕ → Reader Plain
memory_at b bs =
    if nat_lt b 0x36 then (load_of b >>= λ l. via_at (op.Load l) mem_arg_at bs) else
    if nat_lt b 0x3F then (store_of b >>= λ s. via_at (op.Store s) mem_arg_at bs) else
    if b == 0x3F then zero_at op.MemorySize bs else
    if b == 0x40 then zero_at op.MemoryGrow bs else None

unfoldable pub numeric_at : ℕ → Reader Plain
numeric_at b bs =
    if b == 0x41 then via_at op.I32Const (integer_at 32) bs else
    if b == 0x42 then via_at op.I64Const (integer_at 64) bs else
    (numeric_of b >>= λ o. Some (op.Numeric o, bs))

unfoldable pub plain_at : ℕ → Reader Plain
plain_at b bs =
    if nat_lt b 0x20 then parametric_at b bs else
    if nat_lt b 0x28 then variable_at b bs else
    if nat_lt b 0x41 then memory_at b bs else numeric_at b bs

unfoldable pub control_at : ℕ → Reader Control
control_at b bs =
    if b == 0x00 then Some (jump.Unreachable, bs) else
    if b == 0x0C then via_at jump.Br u32_at bs else
    if b == 0x0D then via_at jump.BrIf u32_at bs else
    if b == 0x0E then via_at (λ (x : List ℕ × ℕ). jump.BrTable x.0 x.1) (both_at (vector_at u32_at) u32_at) bs else
    if b == 0x0F then Some (jump.Return, bs) else
    if b == 0x10 then via_at jump.Call u32_at bs else
    if b == 0x11 then (u32_at bs >>= λ t. zero_at (jump.CallIndirect t.0) t.1) else None

abbrev pub block_type_at : Reader BlockType
block_type_at = single_at block_type_of

-- the kind of an opcode
abbrev pub head_of : ℕ → Head
head_of b =
    if b == 0x01 then head.Plain else
    if b == 0x02 then head.Block else
    if b == 0x03 then head.Loop else
    if b == 0x04 then head.If else
    if b == 0x05 then head.End else
    if b == 0x0B then head.End else
    if nat_lt b 0x12 then head.Control else head.Plain

-- the bytes after this byte
abbrev pub expect : ℕ → List ℕ → Option (List ℕ)
expect k [] = None
expect k (b ∷ bs) = if b == k then Some bs else None

-- the body of a nested block
abbrev pub inner : (ℕ → Reader Code) → ℕ → Reader Code
inner code zero bs = None
inner code (suc d) bs = code d bs

-- the type and the body of a block, and the byte that ends it
abbrev pub block_at : (ℕ → Reader Code) → ℕ → Reader (BlockType × Code)
block_at code d bs =
    block_type_at bs >>= λ t. inner code d t.1 >>= λ body. expect 0x0B body.1 >>= λ after. Some ((t.0, body.0), after)

-- the else branch of an if, and the byte that ends it
abbrev pub else_at : (ℕ → Reader Code) → ℕ → Reader Code
else_at code d [] = None
else_at code d (b ∷ bs) = if b == 0x05 then (inner code d bs >>= λ n. expect 0x0B n.1 >>= λ after. Some (n.0, after))
    else if b == 0x0B then Some (end, bs) else None

abbrev pub if_at : (ℕ → Reader Code) → ℕ → Reader (BlockType × (Code × Code))
if_at code d bs = block_type_at bs >>= λ t. inner code d t.1 >>= λ y. else_at code d y.1 >>= λ n. Some ((t.0, (y.0, n.0)), n.1)

-- the rest of an instruction with the opcode b of this kind, and the instructions after it
abbrev pub tail_at : (ℕ → Reader Code) → ℕ → Head → ℕ → Reader Code
tail_at code d head.Plain b bs = plain_at b bs >>= λ p. code d p.1 >>= λ r. Some (plain p.0 r.0, r.1)
tail_at code d head.Control b bs = control_at b bs >>= λ k. code d k.1 >>= λ r. Some (control k.0 r.0, r.1)
tail_at code d head.Block b bs = block_at code d bs >>= λ x. code d x.1 >>= λ r. Some (block x.0.0 x.0.1 r.0, r.1)
tail_at code d head.Loop b bs = block_at code d bs >>= λ x. code d x.1 >>= λ r. Some (loop x.0.0 x.0.1 r.0, r.1)
tail_at code d head.If b bs = if_at code d bs >>= λ x. code d x.1 >>= λ r. Some (choose x.0.0 x.0.1.0 x.0.1.1 r.0, r.1)
tail_at code d head.End b bs = Some (end, b ∷ bs)

-- Instructions up to the byte that ends them: fewer than n in sequence, and blocks nested at most d deep.
abbrev pub code_at : ℕ → ℕ → Reader Code
code_at zero d bs = None
code_at (suc n) d [] = None
code_at (suc n) d (b ∷ bs) = tail_at (code_at n) d (head_of b) b bs

abbrev pub instructions_at : Reader Code
instructions_at bs = code_at (suc (length bs)) MOST_NESTED bs

unfoldable pub expr_at : Reader Code
expr_at bs = instructions_at bs >>= λ c. expect 0x0B c.1 >>= λ after. Some (c.0, after)

-- parts of modules

abbrev pub import_of : List ℕ × (List ℕ × ℕ) → Import
import_of x = record { «module» = x.0; name = x.1.0; type_index = x.1.1 }

unfoldable pub import_at : Reader Import
import_at = via_at import_of (both_at name_at (both_at name_at (behind_at 0x00 u32_at)))

abbrev pub global_of : ValueType × (Mutability × Code) → Global
global_of x = record { value_type = x.0; mutability = x.1.0; init = x.1.1 }

unfoldable pub global_at : Reader Global
global_at = via_at global_of (both_at value_type_at (both_at (single_at mutability_of) expr_at))

abbrev pub export_of : List ℕ × (ExportKind × ℕ) → Export
export_of x = record { name = x.0; kind = x.1.0; index = x.1.1 }

unfoldable pub export_at : Reader Export
export_at = via_at export_of (both_at name_at (both_at (single_at export_kind_of) u32_at))

abbrev pub element_of : ℕ × (Code × List ℕ) → Element
element_of x = record { table = x.0; offset = x.1.0; functions = x.1.1 }

unfoldable pub element_at : Reader Element
element_at = via_at element_of (both_at u32_at (both_at expr_at (vector_at u32_at)))

abbrev pub data_of : ℕ × (Code × List ℕ) → Data
data_of x = record { memory = x.0; offset = x.1.0; bytes = x.1.1 }

unfoldable pub data_at : Reader Data
data_at = via_at data_of (both_at u32_at (both_at expr_at bytes_at))

abbrev pub locals_of : ℕ × ValueType → Locals
locals_of x = record { count = x.0; value_type = x.1 }

unfoldable pub locals_at : Reader Locals
locals_at = via_at locals_of (both_at u32_at value_type_at)

-- the function, if it has fewer than 2 ^ 32 locals
abbrev pub if_fewer : List Locals × Code → Option (List Locals × Code)
if_fewer f = if nat_lt (locals_count f.0) (2 ^ 32) then Some f else None

unfoldable pub func_at : Reader (List Locals × Code)
func_at bs = both_at (vector_at locals_at) expr_at bs >>= λ f. if_fewer f.0 >>= λ g. Some (g, f.1)

-- sections

unfoldable pub custom_at : Reader (List ℕ)
custom_at bs = name_at bs >>= λ x. Some (x.0, [])

-- whether a custom section follows
abbrev pub at_custom : List ℕ → Bool
at_custom [] = false
at_custom (b ∷ bs) = b == 0x00

-- the bytes after fewer than n custom sections
abbrev pub customs_from : ℕ → List ℕ → Option (List ℕ)
customs_from zero bs = None
customs_from (suc n) [] = Some []
customs_from (suc n) (b ∷ bs) = if b == 0x00 then (sized_at custom_at bs >>= λ c. customs_from n c.1) else Some (b ∷ bs)

unfoldable pub customs_at : List ℕ → Option (List ℕ)
customs_at bs = customs_from (suc (length bs)) bs

abbrev pub section_behind : {A : Type 0} → Reader A → Reader (List A)
section_behind read bs = sized_at (vector_at read) bs >>= λ x. customs_at x.1 >>= λ after. Some (x.0, after)

unfoldable pub section_at : {A : Type 0} → ℕ → Reader A → Reader (List A)
section_at number read [] = Some ([], [])
section_at number read (b ∷ bs) = if b == number then section_behind read bs else Some ([], b ∷ bs)

-- modules

abbrev pub Funcs : Type 0
Funcs = List (List Locals × Code)

abbrev pub Sections : Type 0
Sections = List FuncType
    × (List Import
    × (List ℕ × (List TableType × (List ResizableLimits × (List Global × (List Export × (List Element × (Funcs × List Data))))))))

unfoldable pub sections_at : Reader Sections
sections_at =
    both_at (section_at 1 func_type_at)
    (both_at (section_at 2 import_at)
    (both_at (section_at 3 u32_at) (both_at (section_at 4 table_at) (both_at (section_at 5 limits_at)
    (both_at (section_at 6 global_at)
    (both_at (section_at 7 export_at)
    (both_at (section_at 9 element_at) (both_at (section_at 10 (sized_at func_at)) (section_at 11 data_at)))))))))

abbrev pub function_of : ℕ → List Locals × Code → Function
function_of t f = record { type_index = t; locals = f.0; body = f.1 }

-- the functions with these types, locals and bodies
abbrev pub functions_of : List ℕ → Funcs → Option (List Function)
functions_of [] [] = Some []
functions_of [] (f ∷ fs) = None
functions_of (t ∷ ts) [] = None
functions_of (t ∷ ts) (f ∷ fs) = functions_of ts fs >>= λ xs. Some (function_of t f ∷ xs)

abbrev pub module_of : Sections → List Function → Module
module_of x fs = record {
  types = x.0;
  imports = x.1.0;
  functions = fs;
  tables = x.1.1.1.0;
  memories = x.1.1.1.1.0;
  globals = x.1.1.1.1.1.0;
  exports = x.1.1.1.1.1.1.0;
  elements = x.1.1.1.1.1.1.1.0;
  «data» = x.1.1.1.1.1.1.1.1.1;
}

-- the bytes after these bytes
abbrev pub expect_all : List ℕ → List ℕ → Option (List ℕ)
expect_all [] bs = Some bs
expect_all (k ∷ ks) bs = expect k bs >>= expect_all ks

-- the sections after the preamble, if no bytes are left
abbrev pub all_sections_at : List ℕ → Option Sections
all_sections_at bs = expect_all MAGIC bs >>= customs_at >>= sections_at >>= whole

unfoldable pub module_at : List ℕ → Option Module
module_at bs =
    all_sections_at bs >>= λ x. functions_of x.1.1.0 x.1.1.1.1.1.1.1.1.0 >>= λ fs. Some (module_of x fs)
