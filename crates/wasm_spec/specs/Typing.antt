-- Validation of modules (core section 3, with the limits of this host).
use Rattle.std.specs.Prelude.{◌≡◌, ◌≢◌, ℕ, ◌+◌, ◌^◌, ◌<◌, ◌≤◌, ◌&&◌, nat_le, nat_lt, List, [], ◌∷◌, ◌++◌, length, map, reverse}
use Rattle.std.specs.Prelude.{take, replicate, Bool, Option, Some, None, IfSome, option_to_list, slice_get, if◌then◌else◌}
use Rattle.std.specs.List.{AllByRecursion, flat_map}
use Rattle.wasm_spec.specs.declared.types.ValueType.{ValueType}
use Rattle.wasm_spec.specs.declared.types.ValueType.TheVariants.{I32, I64}
use Rattle.wasm_spec.specs.declared.types.Mutability.{Mutability}
use Rattle.wasm_spec.specs.declared.types.Mutability.TheVariants.{Constant, Variable}
use Rattle.wasm_spec.specs.declared.types.FuncType.{FuncType}
use Rattle.wasm_spec.specs.declared.types.ResizableLimits.{ResizableLimits}
use Rattle.wasm_spec.specs.declared.types.TableType.{TableType}
use Rattle.wasm_spec.specs.declared.types.Taken.{Taken}
use Rattle.wasm_spec.specs.declared.types.Taken.TheVariants as operands
use Rattle.wasm_spec.specs.declared.types.Signature.{Signature}
use Rattle.wasm_spec.specs.declared.instructions.Conversion.{Conversion}
use Rattle.wasm_spec.specs.declared.instructions.Conversion.TheVariants as conversion
use Rattle.wasm_spec.specs.declared.instructions.Numeric.{Numeric}
use Rattle.wasm_spec.specs.declared.instructions.Numeric.TheVariants as numeric
use Rattle.wasm_spec.specs.declared.instructions.LoadKind.{LoadKind}
use Rattle.wasm_spec.specs.declared.instructions.LoadKind.TheVariants as load
use Rattle.wasm_spec.specs.declared.instructions.StoreKind.{StoreKind}
use Rattle.wasm_spec.specs.declared.instructions.StoreKind.TheVariants as store
use Rattle.wasm_spec.specs.declared.instructions.Plain.{Plain}
use Rattle.wasm_spec.specs.declared.instructions.Plain.TheVariants as op
use Rattle.wasm_spec.specs.declared.instructions.Control.{Control}
use Rattle.wasm_spec.specs.declared.instructions.Control.TheVariants as jump
use Rattle.wasm_spec.specs.declared.module.Import.{Import}
use Rattle.wasm_spec.specs.declared.module.Locals.{Locals}
use Rattle.wasm_spec.specs.declared.module.Function.{Function}
use Rattle.wasm_spec.specs.declared.module.Global.{Global}
use Rattle.wasm_spec.specs.declared.module.ExportKind.{ExportKind}
use Rattle.wasm_spec.specs.declared.module.ExportKind.TheVariants as exported
use Rattle.wasm_spec.specs.declared.module.Export.{Export}
use Rattle.wasm_spec.specs.declared.module.Element.{Element}
use Rattle.wasm_spec.specs.declared.module.Data.{Data}
use Rattle.wasm_spec.specs.declared.module.Module.{Module}
use Rattle.wasm_spec.specs.Code.{Code, end, plain, control, block, loop, choose, BlockType}
use Rattle.wasm_spec.specs.Binary.{type_indices, locals_count}

infixl 10 ◌>>=◌
abbrev pub ◌>>=◌ : {A B : Type 0} → Option A → (A → Option B) → Option B
None >>= f = None
(Some x) >>= f = f x

-- the limits of this host, which the core leaves open

abbrev pub MOST_PAGES : ℕ
MOST_PAGES = 64

abbrev pub MOST_ELEMENTS : ℕ
MOST_ELEMENTS = 65536

abbrev pub MOST_LOCALS : ℕ
MOST_LOCALS = 4096

-- contexts (3.1.1)

-- the type indices of the imports and of the module's functions, in the order of function indices
abbrev pub function_indices : Module → List ℕ
function_indices m = map (λ (i : Import). i.type_index) m.imports ++ type_indices m.functions

-- the type of the function with this index
abbrev pub function_type : Module → ℕ → Option FuncType
function_type m f = slice_get (function_indices m) f >>= slice_get m.types

-- the result type of a function, which has at most one
abbrev pub result_of : FuncType → BlockType
result_of t = slice_get t.results 0

-- The context of code: the module, the types of the locals, the type that each label takes, the innermost first, and the result
-- of the function.
pub record Context : Type 0 where
  pub module_ : Module
  pub locals : List ValueType
  pub labels : List BlockType
  pub result : BlockType

-- the context in a block whose label takes r
abbrev pub inside : BlockType → Context → Context
inside r c = record c { labels = r ∷ c.labels }

-- instructions (3.3)

-- the types of numeric instructions (3.3.1)

abbrev pub converted_from : Conversion → ValueType
converted_from conversion.I32Wrap = I64
converted_from (conversion.I64Extend s) = I32
converted_from conversion.I32Extend8 = I32
converted_from conversion.I32Extend16 = I32
converted_from conversion.I64Extend8 = I64
converted_from conversion.I64Extend16 = I64
converted_from conversion.I64Extend32 = I64

abbrev pub converted_to : Conversion → ValueType
converted_to conversion.I32Wrap = I32
converted_to (conversion.I64Extend s) = I64
converted_to conversion.I32Extend8 = I32
converted_to conversion.I32Extend16 = I32
converted_to conversion.I64Extend8 = I64
converted_to conversion.I64Extend16 = I64
converted_to conversion.I64Extend32 = I64

abbrev pub signature : Taken → BlockType → Signature
signature takes gives = record { takes = takes; gives = gives }

abbrev pub numeric_signature : Numeric → Signature
numeric_signature (numeric.Eqz t) = signature (operands.One t) (Some I32)
numeric_signature (numeric.Compare t o) = signature (operands.Two t t) (Some I32)
numeric_signature (numeric.Unary t o) = signature (operands.One t) (Some t)
numeric_signature (numeric.Binary t o) = signature (operands.Two t t) (Some t)
numeric_signature (numeric.Convert o) = signature (operands.One (converted_from o)) (Some (converted_to o))

-- Loads and stores (3.3.4): the type of the value, and the exponent e of the 2 ^ e bytes in memory, which is also the exponent of
-- the natural alignment.

abbrev pub load_type : LoadKind → ValueType
load_type load.I32 = I32
load_type load.I64 = I64
load_type (load.I32From8 s) = I32
load_type (load.I32From16 s) = I32
load_type (load.I64From8 s) = I64
load_type (load.I64From16 s) = I64
load_type (load.I64From32 s) = I64

abbrev pub load_exponent : LoadKind → ℕ
load_exponent load.I32 = 2
load_exponent load.I64 = 3
load_exponent (load.I32From8 s) = 0
load_exponent (load.I32From16 s) = 1
load_exponent (load.I64From8 s) = 0
load_exponent (load.I64From16 s) = 1
load_exponent (load.I64From32 s) = 2

abbrev pub store_type : StoreKind → ValueType
store_type store.I32 = I32
store_type store.I64 = I64
store_type store.I32To8 = I32
store_type store.I32To16 = I32
store_type store.I64To8 = I64
store_type store.I64To16 = I64
store_type store.I64To32 = I64

abbrev pub store_exponent : StoreKind → ℕ
store_exponent store.I32 = 2
store_exponent store.I64 = 3
store_exponent store.I32To8 = 0
store_exponent store.I32To16 = 1
store_exponent store.I64To8 = 0
store_exponent store.I64To16 = 1
store_exponent store.I64To32 = 2

-- the signature, if the test holds
abbrev pub when : Bool → Signature → Option Signature
when b s = if b then Some s else None

abbrev pub has_memory : Context → Bool
has_memory c = nat_lt 0 (length c.module_.memories)

-- the signature of setting a global (3.3.3)
abbrev pub set_signature : Mutability → ValueType → Option Signature
set_signature Constant t = None
set_signature Variable t = Some (signature (operands.One t) None)

-- The types that an instruction pops and pushes, if its indices exist and its alignment is at most the natural one. Drop and
-- select have no fixed type.
abbrev pub signature_of : Context → Plain → Option Signature
signature_of c op.Nop = Some (signature operands.None None)
signature_of c op.Drop = None
signature_of c op.Select = None
signature_of c (op.LocalGet i) = slice_get c.locals i >>= λ t. Some (signature operands.None (Some t))
signature_of c (op.LocalSet i) = slice_get c.locals i >>= λ t. Some (signature (operands.One t) None)
signature_of c (op.LocalTee i) = slice_get c.locals i >>= λ t. Some (signature (operands.One t) (Some t))
signature_of c (op.GlobalGet i) =
    slice_get c.module_.globals i >>= λ (g : Global). Some (signature operands.None (Some g.value_type))
signature_of c (op.GlobalSet i) = slice_get c.module_.globals i >>= λ (g : Global). set_signature g.mutability g.value_type
signature_of c (op.Load l m) =
    when (has_memory c && nat_le m.align (load_exponent l)) (signature (operands.One I32) (Some (load_type l)))
signature_of c (op.Store s m) =
    when (has_memory c && nat_le m.align (store_exponent s)) (signature (operands.Two (store_type s) I32) None)
signature_of c op.MemorySize = when (has_memory c) (signature operands.None (Some I32))
signature_of c op.MemoryGrow = when (has_memory c) (signature (operands.One I32) (Some I32))
signature_of c (op.I32Const n) = when (nat_lt n (2 ^ 32)) (signature operands.None (Some I32))
signature_of c (op.I64Const n) = when (nat_lt n (2 ^ 64)) (signature operands.None (Some I64))
signature_of c (op.Numeric o) = Some (numeric_signature o)

-- the types of the popped operands, the topmost first
abbrev pub taken_types : Taken → List ValueType
taken_types operands.None = []
taken_types (operands.One t) = t ∷ []
taken_types (operands.Two t u) = t ∷ u ∷ []

-- An instruction with this signature turns operands of the types ts into operands of the types us, the topmost first.
abbrev pub Applies : Signature → List ValueType → List ValueType → Type 0
Applies s ts us = (below : List ValueType) × (ts ≡ taken_types s.takes ++ below) × (us ≡ option_to_list s.gives ++ below)

-- The instruction turns operands of the types ts into operands of the types us, the topmost first (3.3.1 to 3.3.4, and 3.3.6 for
-- the operands below).
abbrev pub PlainTyped : Context → Plain → List ValueType → List ValueType → Type 0
PlainTyped c op.Drop ts us = (t : ValueType) × (ts ≡ t ∷ us)
PlainTyped c op.Select ts us = (t : ValueType) × (below : List ValueType) × (ts ≡ I32 ∷ t ∷ t ∷ below) × (us ≡ t ∷ below)
PlainTyped c p ts us = (s : Signature) × (signature_of c p ≡ Some s) × Applies s ts us

abbrev pub label : Context → ℕ → Option BlockType
label c l = slice_get c.labels l

-- a call of a function of this type
abbrev pub CallTyped : FuncType → List ValueType → List ValueType → Type 0
CallTyped t ts us = (below : List ValueType) × (ts ≡ reverse t.params ++ below) × (us ≡ option_to_list (result_of t) ++ below)

-- The same for control instructions (3.3.5). An instruction that never continues, as a branch, may leave operands of any types.
abbrev pub ControlTyped : Context → Control → List ValueType → List ValueType → Type 0
ControlTyped c jump.Unreachable ts us = Unit {0}
ControlTyped c (jump.Br l) ts us =
    (r : BlockType) × (below : List ValueType) × (label c l ≡ Some r) × (ts ≡ option_to_list r ++ below)
ControlTyped c (jump.BrIf l) ts us =
    (r : BlockType) × (below : List ValueType) × (label c l ≡ Some r) × (ts ≡ I32 ∷ (option_to_list r ++ below))
    × (us ≡ option_to_list r ++ below)
ControlTyped c (jump.BrTable ls l) ts us =
    (r : BlockType) × (below : List ValueType) × (label c l ≡ Some r) × AllByRecursion (λ k. label c k ≡ Some r) ls
    × (ts ≡ I32 ∷ (option_to_list r ++ below))
ControlTyped c jump.Return ts us = (below : List ValueType) × (ts ≡ option_to_list c.result ++ below)
ControlTyped c (jump.Call f) ts us = (t : FuncType) × (function_type c.module_ f ≡ Some t) × CallTyped t ts us
ControlTyped c (jump.CallIndirect i) ts us =
    (t : FuncType) × (below : List ValueType) × (0 < length c.module_.tables) × (slice_get c.module_.types i ≡ Some t)
    × (ts ≡ I32 ∷ below) × CallTyped t below us

-- The code turns operands of the types ts into operands of the types us (3.3.6). A block starts with no operands.
abbrev pub CodeTyped : Context → Code → List ValueType → List ValueType → Type 0
CodeTyped c end ts us = us ≡ ts
CodeTyped c (plain p rest) ts us = (mid : List ValueType) × PlainTyped c p ts mid × CodeTyped c rest mid us
CodeTyped c (control k rest) ts us = (mid : List ValueType) × ControlTyped c k ts mid × CodeTyped c rest mid us
CodeTyped c (block r body rest) ts us =
    CodeTyped (inside r c) body [] (option_to_list r) × CodeTyped c rest (option_to_list r ++ ts) us
CodeTyped c (loop r body rest) ts us =
    CodeTyped (inside None c) body [] (option_to_list r) × CodeTyped c rest (option_to_list r ++ ts) us
CodeTyped c (choose r taken other rest) ts us =
    (below : List ValueType) × (ts ≡ I32 ∷ below) × CodeTyped (inside r c) taken [] (option_to_list r)
    × CodeTyped (inside r c) other [] (option_to_list r)
    × CodeTyped c rest (option_to_list r ++ below) us

-- functions (3.4.1)

-- the types of the locals that a function declares
abbrev pub local_types : List Locals → List ValueType
local_types = flat_map (λ (l : Locals). replicate l.count l.value_type)

-- the context of a function's body
abbrev pub body_context : Module → FuncType → List Locals → Context
body_context m t ls = record { module_ = m; locals = t.params ++ local_types ls; labels = result_of t ∷ []; result = result_of t }

pub record FunctionTyped (m : Module) (f : Function) : Type 0 where
  pub type_ : FuncType
  pub known : slice_get m.types f.type_index ≡ Some type_
  pub few_locals : length type_.params + locals_count f.locals ≤ MOST_LOCALS
  pub body : CodeTyped (body_context m type_ f.locals) f.body [] (option_to_list (result_of type_))

-- the rules outside function bodies (3.2, 3.3.7, 3.4)

-- Constant expressions (3.3.7). A constant expression leaves one value, so it is a single constant or a single global.get of a
-- global that is never set.

abbrev pub constant_global : Global → Option ValueType
constant_global g = when_constant g.mutability g.value_type
  where
    when_constant : Mutability → ValueType → Option ValueType
    when_constant Constant t = Some t
    when_constant Variable t = None

-- the type of a constant, or of a global that is never set
abbrev pub constant_of : List Global → Plain → Option ValueType
constant_of globals (op.I32Const n) = Some I32
constant_of globals (op.I64Const n) = Some I64
constant_of globals (op.GlobalGet i) = slice_get globals i >>= constant_global
constant_of globals p = None

-- the type, if no instruction follows
abbrev pub alone : Code → Option ValueType → Option ValueType
alone end t = t
alone _ t = None

abbrev pub constant_type : List Global → Code → Option ValueType
constant_type globals (plain p rest) = alone rest (constant_of globals p)
constant_type globals _ = None

-- a type has at most one result (3.2.2)
abbrev pub TypeValid : FuncType → Type 0
TypeValid t = length t.results ≤ 1

-- Limits (3.2.1) of tables and memories (3.2.3, 3.2.4). The minimum is within the host's bound. The maximum, if any, is at least
-- the minimum and within the core's bound.
abbrev pub LimitsValid : (bound most : ℕ) → ResizableLimits → Type 0
LimitsValid bound most l = (l.min ≤ bound) × IfSome l.max (λ n. (l.min ≤ n) × (n ≤ most))

abbrev pub TableValid : TableType → Type 0
TableValid t = LimitsValid MOST_ELEMENTS (2 ^ 32) t.limits

abbrev pub MemoryValid : ResizableLimits → Type 0
MemoryValid = LimitsValid MOST_PAGES (2 ^ 16)

-- 3.4.4, in the context of 3.4.10: an initial value sees the imported globals only, and there are none
abbrev pub GlobalValid : Global → Type 0
GlobalValid g = constant_type [] g.init ≡ Some g.value_type

-- 3.4.5
abbrev pub ElementValid : Module → Element → Type 0
ElementValid m e = (e.table < length m.tables) × (constant_type m.globals e.offset ≡ Some I32)
    × AllByRecursion (λ f. f < length (function_indices m)) e.functions

-- 3.4.6
abbrev pub DataValid : Module → Data → Type 0
DataValid m d = (d.memory < length m.memories) × (constant_type m.globals d.offset ≡ Some I32)

-- the number of definitions of a kind, for exports (3.4.8)
abbrev pub count_of : Module → ExportKind → ℕ
count_of m exported.Function = length (function_indices m)
count_of m exported.Table = length m.tables
count_of m exported.Memory = length m.memories
count_of m exported.Global = length m.globals

abbrev pub ExportValid : Module → Export → Type 0
ExportValid m e = e.index < count_of m e.kind

-- no two of the names are equal (3.4.10)
abbrev pub AreDistinct : List (List ℕ) → Type 0
AreDistinct [] = Unit {0}
AreDistinct (x ∷ xs) = AllByRecursion (λ y. x ≢ y) xs × AreDistinct xs

-- The rules for a module outside its function bodies. The bound of 2^32 on the number of functions, imports included, is a rule
-- of this host: the core bounds each vector (2.1.3), and an index is a number of 32 bits.
pub record OutsideValid (m : Module) : Type 0 where
  pub few_functions : length (function_indices m) < 2 ^ 32
  pub types : AllByRecursion TypeValid m.types
  pub imports : AllByRecursion (λ (i : Import). i.type_index < length m.types) m.imports
  pub functions : AllByRecursion (λ (f : Function). f.type_index < length m.types) m.functions
  pub one_table : length m.tables ≤ 1
  pub tables : AllByRecursion TableValid m.tables
  pub one_memory : length m.memories ≤ 1
  pub memories : AllByRecursion MemoryValid m.memories
  pub globals : AllByRecursion GlobalValid m.globals
  pub elements : AllByRecursion (ElementValid m) m.elements
  pub data_ : AllByRecursion (DataValid m) m.data
  pub exports : AllByRecursion (ExportValid m) m.exports
  pub names : AreDistinct (map (λ (e : Export). e.name) m.exports)

-- modules (3.4.10)
pub record Typed (m : Module) : Type 0 where
  pub outside : OutsideValid m
  pub bodies : AllByRecursion (FunctionTyped m) m.functions

-- the function with this index, imports counted, is the first ill-typed one
abbrev pub IsFirstIll : Module → ℕ → Type 0
IsFirstIll m f = (i : ℕ) × (ill : Function) × (f ≡ length m.imports + i) × (slice_get m.functions i ≡ Some ill)
    × (FunctionTyped m ill → ⊥) × AllByRecursion (FunctionTyped m) (take i m.functions)

-- The report on an invalid module (a rule of this host): None if a rule outside bodies is broken, else the index of the first
-- ill-typed function.
abbrev pub IsIll : Module → Option ℕ → Type 0
IsIll m None = OutsideValid m → ⊥
IsIll m (Some f) = OutsideValid m × IsFirstIll m f
