-- The start of a run: the export that is called, and the initial store (core section 4.5.4).
use Rattle.std.specs.Prelude.{ℕ, ◌+◌, ◌*◌, ◌&&◌, nat_le, min, List, [], ◌∷◌, ◌++◌, length, map, fold, replicate, Bool, false}
use Rattle.std.specs.Prelude.{Option, Some, None, unwrap_or, option_to_list, slice_get, if◌then◌else◌}
use Rattle.std.specs.List.{list_all}
use Rattle.std.specs.Str.{bytes_eq}
use Rattle.wasm_spec.specs.declared.types.ValueType.TheVariants.{I64}
use Rattle.wasm_spec.specs.declared.types.FuncType.{FuncType}
use Rattle.wasm_spec.specs.declared.types.ResizableLimits.{ResizableLimits}
use Rattle.wasm_spec.specs.declared.types.TableType.{TableType}
use Rattle.wasm_spec.specs.declared.values.Value.{Value}
use Rattle.wasm_spec.specs.declared.values.Value.TheVariants as value
use Rattle.wasm_spec.specs.declared.instructions.Plain.{Plain}
use Rattle.wasm_spec.specs.declared.instructions.Plain.TheVariants as op
use Rattle.wasm_spec.specs.declared.module.Global.{Global}
use Rattle.wasm_spec.specs.declared.module.ExportKind.{ExportKind}
use Rattle.wasm_spec.specs.declared.module.ExportKind.TheVariants as exported
use Rattle.wasm_spec.specs.declared.module.Export.{Export}
use Rattle.wasm_spec.specs.declared.module.Element.{Element}
use Rattle.wasm_spec.specs.declared.module.Data.{Data}
use Rattle.wasm_spec.specs.declared.module.Module.{Module}
use Rattle.wasm_spec.specs.Code.{Code, end, plain}
use Rattle.wasm_spec.specs.Typing.{MOST_PAGES, function_type}
use Rattle.wasm_spec.specs.Stores.{overwritten, PAGE, Memory, Store}
use Rattle.wasm_spec.specs.Meaning.{same_types}

-- constant expressions (3.3.7): the initial values of globals, and the offsets of segments

abbrev pub constant_plain : List Value → Plain → Option Value
constant_plain globals (op.I32Const n) = Some (value.I32 n)
constant_plain globals (op.I64Const n) = Some (value.I64 n)
constant_plain globals (op.GlobalGet i) = slice_get globals i
constant_plain globals p = None

abbrev pub constant_value : List Value → Code → Option Value
constant_value globals (plain p end) = constant_plain globals p
constant_value globals _ = None

abbrev pub i32_of : Option Value → Option ℕ
i32_of (Some (value.I32 n)) = Some n
i32_of (Some (value.I64 n)) = None
i32_of None = None

-- the offset of a segment
abbrev pub offset_of : List Value → Code → Option ℕ
offset_of globals code = i32_of (constant_value globals code)

-- the store before the segments are written

abbrev pub first_values : List Global → List Value
first_values [] = []
first_values (g ∷ gs) = option_to_list (constant_value [] g.init) ++ first_values gs

abbrev pub first_globals : Module → List Value
first_globals m = first_values m.globals

abbrev pub table_of : Option TableType → List (Option ℕ)
table_of None = []
table_of (Some t) = replicate t.limits.min None

-- A memory grows to its declared maximum at most, and never beyond this host's limit.
abbrev pub memory_of : Option ResizableLimits → Memory
memory_of None = record { bytes = []; most_pages = 0 }
memory_of (Some l) = record { bytes = replicate (l.min * PAGE) 0; most_pages = min (unwrap_or l.max MOST_PAGES) MOST_PAGES }

abbrev pub empty_store : Module → Store
empty_store m =
    record { memory = memory_of (slice_get m.memories 0); globals = first_globals m; table = table_of (slice_get m.tables 0) }

-- segments: all are tested before any is written, in the order of the module

abbrev pub fits : {A : Type 0} → List A → Option ℕ → ℕ → Bool
fits items None count = false
fits items (Some offset) count = nat_le (offset + count) (length items)

abbrev pub put : {A : Type 0} → List A → Option ℕ → List A → List A
put items None news = items
put items (Some offset) news = overwritten items offset news

abbrev pub segments_fit : Module → Store → Bool
segments_fit m s =
    list_all (λ (e : Element). fits s.table (offset_of s.globals e.offset) (length e.functions)) m.elements
    && list_all (λ (d : Data). fits s.memory.bytes (offset_of s.globals d.offset) (length d.bytes)) m.data

abbrev pub with_elements : List Value → List (Option ℕ) → List Element → List (Option ℕ)
with_elements globals = fold (λ table (e : Element). put table (offset_of globals e.offset) (map Some e.functions))

abbrev pub with_data : List Value → List ℕ → List Data → List ℕ
with_data globals = fold (λ bytes (d : Data). put bytes (offset_of globals d.offset) d.bytes)

abbrev pub filled : Module → Store → Store
filled m s = record s {
  memory = record s.memory { bytes = with_data s.globals s.memory.bytes m.data };
  table = with_elements s.globals s.table m.elements;
}

-- the export

abbrev pub function_exported : ExportKind → ℕ → Option ℕ
function_exported exported.Function f = Some f
function_exported exported.Table i = None
function_exported exported.Memory i = None
function_exported exported.Global i = None

-- the function exported under a name
abbrev pub function_named : List ℕ → List Export → Option ℕ
function_named name [] = None
function_named name (e ∷ es) = if bytes_eq e.name name then function_exported e.kind e.index else function_named name es

-- whether a function has n parameters of 64 bits and one result of 64 bits
abbrev pub has_arity : ℕ → Option FuncType → Bool
has_arity n None = false
has_arity n (Some t) = same_types t.params (replicate n I64) && same_types t.results (I64 ∷ [])

-- The start of a call of an export: its function and the store, or the error. The errors are tested in this order (a rule of this
-- host).
pub data Start : Type 0 where
  Missing : Start
  WrongArity : Start
  Segment : Start
  Ready : (function : ℕ) (store : Store) → Start

abbrev pub start_filled : Module → ℕ → Store → Start
start_filled m f s = if segments_fit m s then Ready f (filled m s) else Segment

abbrev pub start_function : Module → ℕ → Option ℕ → Start
start_function m n None = Missing
start_function m n (Some f) = if has_arity n (function_type m f) then start_filled m f (empty_store m) else WrongArity

abbrev pub start_of : Module → List ℕ → ℕ → Start
start_of m name n = start_function m n (function_named name m.exports)
