-- Loading of modules from bytes (core sections 3 and 5; linking and the order of flaws are own).
use Rattle.std.specs.Prelude.{◌+◌, ◌&&◌, ℕ, suc, Bool, false, List, [], ◌∷◌, length, Option, Some, None, Result}
use Rattle.std.specs.Prelude.{Ok, Err, slice_get, option_map, is_some, nat_le, if◌then◌else◌}
use Rattle.wasm_spec.specs.Binary.{ModuleBytes, locals_count}
use Rattle.wasm_spec.specs.Typing.{◌>>=◌, Typed, IsIll, MOST_LOCALS, body_context, result_of}
use Rattle.wasm_spec.specs.declared.module.Module.{Module}
use Rattle.wasm_spec.specs.declared.module.Function.{Function}
use Rattle.wasm_spec.specs.declared.types.FuncType.{FuncType}
use Rattle.wasm_read.specs.Reading.{module_at}
use Rattle.host_interface.specs.Rows.{Row, host_rows}
use Rattle.module_spec.specs.Check.{body_check}
use Rattle.module_spec.specs.Linking.{Linked, IsFirstUnlinked, import_ok, import_row}
use Rattle.module_spec.specs.Outside.{rules_ok, exports_differ}
use Rattle.module_spec.specs.declared.flaw.Flaw.{Flaw}
use Rattle.module_spec.specs.declared.flaw.Flaw.TheVariants.{NotAModule, Ill, Unlinked}

-- ---- by the standard's relations

-- the bytes encode the module, it is valid, and its imports are host imports
abbrev pub IsModule : List ℕ → Module → Type 0
IsModule bytes m = ModuleBytes m bytes × Typed m × Linked host_rows m

-- the bytes encode such a module, or the flaw is that of the module that they encode, or they encode none
abbrev pub IsLoaded : List ℕ → Result Module Flaw → Type 0
IsLoaded bytes (Ok m) = IsModule bytes m
IsLoaded bytes (Err NotAModule) = (m : Module) → ModuleBytes m bytes → ⊥
IsLoaded bytes (Err (Ill func)) = (m : Module) × ModuleBytes m bytes × IsIll m func
IsLoaded bytes (Err (Unlinked k)) = (m : Module) × ModuleBytes m bytes × Typed m × IsFirstUnlinked host_rows m k

-- ---- as a function: the first test that fails

-- the index of the first item that fails the test
abbrev pub first_failing : {A : Type 0} → (A → Bool) → List A → Option ℕ
first_failing passes [] = None
first_failing passes (x ∷ xs) = if passes x then option_map suc (first_failing passes xs) else Some 0

abbrev pub has_type : Module → Function → Option FuncType → Bool
has_type m f None = false
has_type m f (Some t) =
    nat_le (length t.params + locals_count f.locals) MOST_LOCALS
    && is_some (body_check (body_context m t f.locals) (result_of t) f.body)

-- whether a function is typed
abbrev pub function_ok : Module → Function → Bool
function_ok m f = has_type m f (slice_get m.types f.type_index)

abbrev pub by_import : Module → Option ℕ → Result Module Flaw
by_import m None = Ok m
by_import m (Some k) = Err (Unlinked k)

abbrev pub by_function : Module → Option ℕ → Result Module Flaw
by_function m None = by_import m (first_failing (import_ok host_rows m) m.imports)
by_function m (Some i) = Err (Ill (Some (length m.imports + i)))

-- the module, or its first flaw
abbrev pub judged : Module → Result Module Flaw
judged m =
    if rules_ok m && exports_differ m.exports then by_function m (first_failing (function_ok m) m.functions)
    else Err (Ill None)

abbrev pub judged_if : Option Module → Result Module Flaw
judged_if None = Err NotAModule
judged_if (Some m) = judged m

-- the result of loading the bytes
unfoldable pub loaded : List ℕ → Result Module Flaw
loaded bytes = judged_if (module_at bytes)

abbrev pub accepted : Result Module Flaw → Option Module
accepted (Ok m) = Some m
accepted (Err flaw) = None

-- the valid, linked module that the bytes encode, if they encode one
abbrev pub module_of : List ℕ → Option Module
module_of bytes = accepted (loaded bytes)

-- the row of the host interface for the import of the index
abbrev pub row_at : Module → ℕ → Option Row
row_at m k = slice_get m.imports k >>= import_row host_rows m
