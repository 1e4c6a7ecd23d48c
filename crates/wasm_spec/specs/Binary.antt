-- The binary format (core section 5): which bytes encode which parts of a module. Bytes are numbers below 256.
use Rattle.std.specs.Prelude.{◌≡◌, ℕ, ◌+◌, ◌-◌, ◌*◌, ◌^◌, ◌<◌, ◌≤◌, ◌⊎◌, max, List, [], ◌∷◌, ◌++◌, length, map, sum_by, Option}
use Rattle.std.specs.Prelude.{Some, None, IsUtf8}
use Rattle.wasm_spec.specs.declared.types.ValueType.{ValueType}
use Rattle.wasm_spec.specs.declared.types.FuncType.{FuncType}
use Rattle.wasm_spec.specs.declared.types.ResizableLimits.{ResizableLimits}
use Rattle.wasm_spec.specs.declared.types.TableType.{TableType}
use Rattle.wasm_spec.specs.declared.instructions.MemArg.{MemArg}
use Rattle.wasm_spec.specs.declared.instructions.Plain.{Plain}
use Rattle.wasm_spec.specs.declared.instructions.Plain.TheVariants as op
use Rattle.wasm_spec.specs.declared.instructions.Control.{Control}
use Rattle.wasm_spec.specs.declared.instructions.Control.TheVariants as jump
use Rattle.wasm_spec.specs.declared.module.Import.{Import}
use Rattle.wasm_spec.specs.declared.module.Locals.{Locals}
use Rattle.wasm_spec.specs.declared.module.Function.{Function}
use Rattle.wasm_spec.specs.declared.module.Global.{Global}
use Rattle.wasm_spec.specs.declared.module.Export.{Export}
use Rattle.wasm_spec.specs.declared.module.Element.{Element}
use Rattle.wasm_spec.specs.declared.module.Data.{Data}
use Rattle.wasm_spec.specs.declared.module.Module.{Module}
use Rattle.wasm_spec.specs.Code.{Code, end, plain, control, block, loop, choose, BlockType}
use Rattle.wasm_spec.specs.Opcodes.{value_type_of, block_type_of, mutability_of, export_kind_of, load_of, store_of, numeric_of}

-- which bytes encode a value
abbrev pub Spelling : Type 0 → Type 1
Spelling A = A → List ℕ → Type 0

-- a byte, and then the encoding of the value
abbrev pub Behind : {A : Type 0} → ℕ → Spelling A → Spelling A
Behind k P x bs = (rest : List ℕ) × (bs ≡ k ∷ rest) × P x rest

-- the encodings of two values, one after the other
infixr 6 ◌⊗◌
abbrev pub ◌⊗◌ : {A B : Type 0} → Spelling A → Spelling B → Spelling (A × B)
(P ⊗ Q) x bs = (a b : List ℕ) × (bs ≡ a ++ b) × P x.0 a × Q x.1 b

-- one byte that encodes the value
abbrev pub Single : {A : Type 0} → (ℕ → Option A) → Spelling A
Single meaning x bs = (b : ℕ) × (bs ≡ b ∷ []) × (meaning b ≡ Some x)

-- integers (5.2.2): LEB128

-- A byte below 128 is the last one. A byte of 128 or more holds the lowest seven bits, and the bytes after it hold the others.
abbrev pub IsLeb : (ℕ → ℕ → ℕ → Type 0) → ℕ → Spelling ℕ
IsLeb IsLast bits n [] = ⊥
IsLeb IsLast bits n (b ∷ []) = (b < 128) × IsLast bits b n
IsLeb IsLast bits n (b ∷ c ∷ bs) =
    (128 ≤ b) × (7 < bits) × (high : ℕ) × (n + 128 ≡ 128 * high + b) × IsLeb IsLast (bits - 7) high (c ∷ bs)

-- the last byte of an unsigned number with so many bits left: its unused bits are 0
abbrev pub IsUnsignedLast : ℕ → ℕ → ℕ → Type 0
IsUnsignedLast bits b n = (b < 2 ^ bits) × (n ≡ b)

-- The last byte of a signed number with so many bits left: bit 6 is the sign, and the unused bits equal it. n is the number, plus
-- 2 ^ bits if it is negative.
abbrev pub IsSignedLast : ℕ → ℕ → ℕ → Type 0
IsSignedLast bits b n =
    ((b < 64) × (b < 2 ^ (bits - 1)) × (n ≡ b)) ⊎ ((64 ≤ b) × (128 ≤ b + 2 ^ (bits - 1)) × (n + 128 ≡ b + 2 ^ bits))

-- uN
abbrev pub IsUnsigned : ℕ → Spelling ℕ
IsUnsigned bits = IsLeb IsUnsignedLast bits

-- iN: an uninterpreted integer, encoded as the signed number sN with the same bits
abbrev pub IsInteger : ℕ → Spelling ℕ
IsInteger bits = IsLeb IsSignedLast bits

abbrev pub IsU32 : Spelling ℕ
IsU32 = IsUnsigned 32

-- vectors (5.1.3) and names (5.2.4)

-- a sequence of values without a length
abbrev pub IsRow : {A : Type 0} → Spelling A → Spelling (List A)
IsRow P [] bs = bs ≡ []
IsRow P (x ∷ xs) bs = (a b : List ℕ) × (bs ≡ a ++ b) × P x a × IsRow P xs b

-- the number of values, and then the values
abbrev pub IsVector : {A : Type 0} → Spelling A → Spelling (List A)
IsVector P xs bs = (a b : List ℕ) × (bs ≡ a ++ b) × IsU32 (length xs) a × IsRow P xs b

-- the number of bytes, and then the bytes
abbrev pub IsByteVector : Spelling (List ℕ)
IsByteVector bytes bs = (a : List ℕ) × (bs ≡ a ++ bytes) × IsU32 (length bytes) a

abbrev pub IsName : Spelling (List ℕ)
IsName name bs = IsUtf8 name × IsByteVector name bs

-- the number of bytes that encode the value, and then those bytes
abbrev pub Sized : {A : Type 0} → Spelling A → Spelling A
Sized P x bs = (a b : List ℕ) × (bs ≡ a ++ b) × IsU32 (length b) a × P x b

-- types (5.3)

abbrev pub IsValueType : Spelling ValueType
IsValueType = Single value_type_of

abbrev pub IsFuncType : Spelling FuncType
IsFuncType t = Behind 0x60 (IsVector IsValueType ⊗ IsVector IsValueType) (t.params, t.results)

abbrev pub IsLimitsOf : ℕ → Option ℕ → List ℕ → Type 0
IsLimitsOf min None = Behind 0x00 IsU32 min
IsLimitsOf min (Some most) = Behind 0x01 (IsU32 ⊗ IsU32) (min, most)

abbrev pub IsLimits : Spelling ResizableLimits
IsLimits l = IsLimitsOf l.min l.max

-- instructions (5.4)

abbrev pub IsMemArg : Spelling MemArg
IsMemArg m = (IsU32 ⊗ IsU32) (m.align, m.offset)

-- 5.4.2 to 5.4.5, and nop
abbrev pub IsPlain : Spelling Plain
IsPlain op.Nop bs = bs ≡ 0x01 ∷ []
IsPlain op.Drop bs = bs ≡ 0x1A ∷ []
IsPlain op.Select bs = bs ≡ 0x1B ∷ []
IsPlain (op.LocalGet i) bs = Behind 0x20 IsU32 i bs
IsPlain (op.LocalSet i) bs = Behind 0x21 IsU32 i bs
IsPlain (op.LocalTee i) bs = Behind 0x22 IsU32 i bs
IsPlain (op.GlobalGet i) bs = Behind 0x23 IsU32 i bs
IsPlain (op.GlobalSet i) bs = Behind 0x24 IsU32 i bs
IsPlain (op.Load l m) bs = (b : ℕ) × (load_of b ≡ Some l) × Behind b IsMemArg m bs
IsPlain (op.Store s m) bs = (b : ℕ) × (store_of b ≡ Some s) × Behind b IsMemArg m bs
IsPlain op.MemorySize bs = bs ≡ 0x3F ∷ 0x00 ∷ []
IsPlain op.MemoryGrow bs = bs ≡ 0x40 ∷ 0x00 ∷ []
IsPlain (op.I32Const n) bs = Behind 0x41 (IsInteger 32) n bs
IsPlain (op.I64Const n) bs = Behind 0x42 (IsInteger 64) n bs
IsPlain (op.Numeric n) bs = Single numeric_of n bs

-- 5.4.1, without blocks
abbrev pub IsControl : Spelling Control
IsControl jump.Unreachable bs = bs ≡ 0x00 ∷ []
IsControl (jump.Br l) bs = Behind 0x0C IsU32 l bs
IsControl (jump.BrIf l) bs = Behind 0x0D IsU32 l bs
IsControl (jump.BrTable ls l) bs = Behind 0x0E (IsVector IsU32 ⊗ IsU32) (ls, l) bs
IsControl jump.Return bs = bs ≡ 0x0F ∷ []
IsControl (jump.Call f) bs = Behind 0x10 IsU32 f bs
IsControl (jump.CallIndirect t) bs = (a : List ℕ) × (bs ≡ 0x11 ∷ (a ++ (0x00 ∷ []))) × IsU32 t a

abbrev pub IsBlockType : Spelling BlockType
IsBlockType = Single block_type_of

-- A sequence of instructions. A block ends with 0x0B. The else branch of an if follows 0x05 and may be left out if it is empty.
abbrev pub IsCode : Spelling Code
IsCode end bs = bs ≡ []
IsCode (plain p rest) bs = (a b : List ℕ) × (bs ≡ a ++ b) × IsPlain p a × IsCode rest b
IsCode (control k rest) bs = (a b : List ℕ) × (bs ≡ a ++ b) × IsControl k a × IsCode rest b
IsCode (block t body rest) bs =
    (y a b : List ℕ) × (bs ≡ 0x02 ∷ (y ++ (a ++ (0x0B ∷ b)))) × IsBlockType t y × IsCode body a × IsCode rest b
IsCode (loop t body rest) bs =
    (y a b : List ℕ) × (bs ≡ 0x03 ∷ (y ++ (a ++ (0x0B ∷ b)))) × IsBlockType t y × IsCode body a × IsCode rest b
IsCode (choose t taken other rest) bs =
    (y a e b : List ℕ) × (bs ≡ 0x04 ∷ (y ++ (a ++ (e ++ (0x0B ∷ b))))) × IsBlockType t y × IsCode taken a
    × (((other ≡ end) × (e ≡ [])) ⊎ ((c : List ℕ) × (e ≡ 0x05 ∷ c) × IsCode other c)) × IsCode rest b

-- the depth to which blocks are nested
abbrev pub depth : Code → ℕ
depth end = 0
depth (plain p rest) = depth rest
depth (control k rest) = depth rest
depth (block t body rest) = max (depth body + 1) (depth rest)
depth (loop t body rest) = max (depth body + 1) (depth rest)
depth (choose t taken other rest) = max (max (depth taken + 1) (depth other + 1)) (depth rest)

-- the deepest nesting of blocks (a limit of this host)
abbrev pub MOST_NESTED : ℕ
MOST_NESTED = 1000

-- expressions (5.4.6)
abbrev pub IsExpr : Spelling Code
IsExpr code bs = (a : List ℕ) × (bs ≡ a ++ (0x0B ∷ [])) × IsCode code a × (depth code ≤ MOST_NESTED)

-- parts of modules (5.5)

-- 5.5.5, of functions only
abbrev pub IsImport : Spelling Import
IsImport i = (IsName ⊗ IsName ⊗ Behind 0x00 IsU32) (i.module, (i.name, i.type_index))

-- 5.5.7 and 5.3.6: tables of functions
abbrev pub IsTable : Spelling TableType
IsTable t = Behind 0x70 IsLimits t.limits

-- 5.5.9
abbrev pub IsGlobal : Spelling Global
IsGlobal g = (IsValueType ⊗ Single mutability_of ⊗ IsExpr) (g.value_type, (g.mutability, g.init))

-- 5.5.10
abbrev pub IsExport : Spelling Export
IsExport e = (IsName ⊗ Single export_kind_of ⊗ IsU32) (e.name, (e.kind, e.index))

-- 5.5.12
abbrev pub IsElement : Spelling Element
IsElement e = (IsU32 ⊗ IsExpr ⊗ IsVector IsU32) (e.table, (e.offset, e.functions))

-- 5.5.14
abbrev pub IsData : Spelling Data
IsData d = (IsU32 ⊗ IsExpr ⊗ IsByteVector) (d.memory, (d.offset, d.bytes))

-- 5.5.13: groups of locals of one type

abbrev pub IsLocals : Spelling Locals
IsLocals l = (IsU32 ⊗ IsValueType) (l.count, l.value_type)

abbrev pub locals_count : List Locals → ℕ
locals_count = sum_by (λ l. l.count)

-- a function's locals, fewer than 2 ^ 32 of them, and its body
abbrev pub IsFunc : Spelling (List Locals × Code)
IsFunc f bs = (locals_count f.0 < 2 ^ 32) × (IsVector IsLocals ⊗ IsExpr) f bs

-- sections (5.5.2, 5.5.3)

-- A custom section holds a name and then any bytes.
abbrev pub IsCustomContent : Spelling (List ℕ)
IsCustomContent name bs = (a more : List ℕ) × (bs ≡ a ++ more) × IsName name a

-- a sequence of custom sections with these names
abbrev pub AreCustoms : Spelling (List (List ℕ))
AreCustoms = IsRow (Behind 0x00 (Sized IsCustomContent))

-- The section with this id and the custom sections after it, or no bytes at all if there are no items.
abbrev pub IsSection : {A : Type 0} → ℕ → Spelling A → Spelling (List A)
IsSection number P xs bs =
    ((xs ≡ []) × (bs ≡ [])) ⊎ ((names : List (List ℕ)) × Behind number (Sized (IsVector P) ⊗ AreCustoms) (xs, names) bs)

-- modules (5.5.15)

-- "\0asm", and version 1
abbrev pub MAGIC : List ℕ
MAGIC = 0x00 ∷ 0x61 ∷ 0x73 ∷ 0x6D ∷ 0x01 ∷ 0x00 ∷ 0x00 ∷ 0x00 ∷ []

abbrev pub type_indices : List Function → List ℕ
type_indices fs = map (λ (f : Function). f.type_index) fs

abbrev pub funcs : List Function → List (List Locals × Code)
funcs fs = map (λ (f : Function). (f.locals, f.body)) fs

-- The sections in the order of their ids, each at most once. Section 3 holds the functions' types, and section 10 their locals
-- and bodies. There is no start section (id 8).
abbrev pub ModuleBytes : Module → List ℕ → Type 0
ModuleBytes m bs =
    (names : List (List ℕ)) × (rest : List ℕ) × (bs ≡ MAGIC ++ rest)
    × (AreCustoms ⊗ IsSection 1 IsFuncType ⊗ IsSection 2 IsImport ⊗ IsSection 3 IsU32 ⊗ IsSection 4 IsTable
    ⊗ IsSection 5 IsLimits ⊗ IsSection 6 IsGlobal ⊗ IsSection 7 IsExport
    ⊗ IsSection 9 IsElement ⊗ IsSection 10 (Sized IsFunc) ⊗ IsSection 11 IsData) (
      names,
      (
        m.types,
        (
          m.imports,
          (
            type_indices m.functions,
            (m.tables, (m.memories, (m.globals, (m.exports, (m.elements, (funcs m.functions, m.data)))))),
          ),
        ),
      ),
    ) rest
