-- The rules outside function bodies as Boolean tests (core sections 3.2 and 3.4).
use Rattle.std.specs.Prelude.{ℕ, ◌^◌, ◌+◌, ◌&&◌, not, nat_le, nat_lt, Bool, true, false, List, [], ◌∷◌, length, Option, Some}
use Rattle.std.specs.Prelude.{None}
use Rattle.std.specs.List.{list_all}
use Rattle.wasm_spec.specs.declared.types.ValueType.{ValueType}
use Rattle.wasm_spec.specs.declared.types.ValueType.TheVariants.{I32}
use Rattle.wasm_spec.specs.declared.types.FuncType.{FuncType}
use Rattle.wasm_spec.specs.declared.types.ResizableLimits.{ResizableLimits}
use Rattle.wasm_spec.specs.declared.types.TableType.{TableType}
use Rattle.wasm_spec.specs.declared.module.Import.{Import}
use Rattle.wasm_spec.specs.declared.module.Function.{Function}
use Rattle.wasm_spec.specs.declared.module.Global.{Global}
use Rattle.wasm_spec.specs.declared.module.Export.{Export}
use Rattle.wasm_spec.specs.declared.module.Element.{Element}
use Rattle.wasm_spec.specs.declared.module.Data.{Data}
use Rattle.wasm_spec.specs.declared.module.Module.{Module}
use Rattle.wasm_spec.specs.Typing.{MOST_PAGES, MOST_ELEMENTS, constant_type, count_of}
use Rattle.module_spec.specs.Check.{same_type}
use Rattle.std.specs.Str.{bytes_eq}

abbrev pub is_type : Option ValueType → ValueType → Bool
is_type None t = false
is_type (Some u) t = same_type u t

abbrev pub type_ok : FuncType → Bool
type_ok t = nat_le (length t.results) 1

abbrev pub max_ok : ℕ → ℕ → Option ℕ → Bool
max_ok min most None = true
max_ok min most (Some n) = nat_le min n && nat_le n most

abbrev pub limits_ok : ℕ → ℕ → ResizableLimits → Bool
limits_ok bound most l = nat_le l.min bound && max_ok l.min most l.max

abbrev pub table_ok : TableType → Bool
table_ok t = limits_ok MOST_ELEMENTS (2 ^ 32) t.limits

abbrev pub memory_ok : ResizableLimits → Bool
memory_ok l = limits_ok MOST_PAGES (2 ^ 16) l

abbrev pub global_ok : Global → Bool
global_ok g = is_type (constant_type [] g.init) g.value_type

-- the functions of an element segment, in a module with so many functions
abbrev pub functions_ok : ℕ → List ℕ → Bool
functions_ok count fs = list_all (λ f. nat_lt f count) fs

abbrev pub element_ok : Module → Element → Bool
element_ok m e = nat_lt e.table (length m.tables)
    && (is_type (constant_type m.globals e.offset) I32 && functions_ok (length m.imports + length m.functions) e.functions)

abbrev pub data_ok : Module → Data → Bool
data_ok m d = nat_lt d.memory (length m.memories) && is_type (constant_type m.globals d.offset) I32

abbrev pub export_ok : Module → Export → Bool
export_ok m e = nat_lt e.index (count_of m e.kind)

-- types, and the types that imports and functions name
abbrev pub types_ok : Module → Bool
types_ok m =
    list_all type_ok m.types
    && (list_all (λ (i : Import). nat_lt i.type_index (length m.types)) m.imports
    && list_all (λ (f : Function). nat_lt f.type_index (length m.types)) m.functions)

abbrev pub sizes_ok : Module → Bool
sizes_ok m =
    nat_lt (length m.imports + length m.functions) (2 ^ 32)
    && (nat_le (length m.tables) 1
    && (list_all table_ok m.tables && (nat_le (length m.memories) 1 && list_all memory_ok m.memories)))

abbrev pub values_ok : Module → Bool
values_ok m = list_all global_ok m.globals
    && (list_all (element_ok m) m.elements && (list_all (data_ok m) m.data && list_all (export_ok m) m.exports))

abbrev pub rules_ok : Module → Bool
rules_ok m = types_ok m && (sizes_ok m && values_ok m)

-- whether none of these exports has the name
abbrev pub is_new : List ℕ → List Export → Bool
is_new name es = list_all (λ (e : Export). not (bytes_eq name e.name)) es

-- whether no two exports have the same name
abbrev pub exports_differ : List Export → Bool
exports_differ [] = true
exports_differ (e ∷ es) = is_new e.name es && exports_differ es
