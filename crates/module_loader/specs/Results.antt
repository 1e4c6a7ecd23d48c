-- What the code of loading returns, and laws of loading (own).
use Rattle.std.specs.Prelude.{◌≡◌, ◌↔◌, ℕ, List, map, Option, Some, None, Result, Ok, Err, ⊤}
use Rattle.wasm_spec.specs.Typing.{IsIll}
use Rattle.wasm_spec.specs.declared.module.Module.{Module}
use Rattle.host_interface.specs.Rows.{Row, host_rows}
use Rattle.module_spec.specs.Linking.{IsFirstUnlinked, import_row}
use Rattle.module_spec.specs.Loading.{IsModule, IsLoaded, loaded, module_of}
use Rattle.module_spec.specs.declared.flaw.Flaw.{Flaw}
use Rattle.module_spec.specs.declared.flaw.Flaw.TheVariants.{NotAModule, Ill, Unlinked}
use Rattle.module_loader.specs.declared.error.LoadErr.{LoadErr}
use Rattle.module_loader.specs.declared.error.LoadErr.TheVariants.{Flawed, NoMemory}

-- ---- laws

-- The defined result is exactly the true one.
abbrev pub IsExact : Type 0
IsExact = (bytes : List ℕ) (result : Result Module Flaw) → (loaded bytes ≡ result) ↔ IsLoaded bytes result

-- `module_of` is exactly the module of the bytes.
abbrev pub ModuleOfIsExact : Type 0
ModuleOfIsExact = (bytes : List ℕ) (m : Module) → (module_of bytes ≡ Some m) ↔ IsModule bytes m

-- ---- results of the code

abbrev pub ReportsFlaw : List ℕ → LoadErr → Type 0
ReportsFlaw bytes (Flawed flaw) = IsLoaded bytes (Err flaw)
ReportsFlaw bytes NoMemory = ⊤

abbrev pub IsLoadedUnlessMemory : List ℕ → Result Module LoadErr → Type 0
IsLoadedUnlessMemory bytes (Ok m) = IsModule bytes m
IsLoadedUnlessMemory bytes (Err e) = ReportsFlaw bytes e

abbrev pub Gives : Result Module Flaw → Result Module LoadErr → Type 0
Gives r (Ok m) = r ≡ Ok m
Gives r (Err (Flawed flaw)) = r ≡ Err flaw
Gives r (Err NoMemory) = ⊤

abbrev pub IsModuleOf : Option Module → Result Module LoadErr → Type 0
IsModuleOf o (Ok m) = o ≡ Some m
IsModuleOf o (Err (Flawed flaw)) = o ≡ None
IsModuleOf o (Err NoMemory) = ⊤

-- the module is ill typed at the function that the error names
abbrev pub ReportsIll : Module → LoadErr → Type 0
ReportsIll m (Flawed (Ill func)) = IsIll m func
ReportsIll m (Flawed NotAModule) = ⊥
ReportsIll m (Flawed (Unlinked k)) = ⊥
ReportsIll m NoMemory = ⊤

-- the error names the first import of the module that is no host import
abbrev pub ReportsUnlinked : Module → LoadErr → Type 0
ReportsUnlinked m (Flawed (Unlinked k)) = IsFirstUnlinked host_rows m k
ReportsUnlinked m (Flawed NotAModule) = ⊥
ReportsUnlinked m (Flawed (Ill func)) = ⊥
ReportsUnlinked m NoMemory = ⊤

-- the rows are those of the module's imports, in their order
abbrev pub HasRows : Module → List Row → Type 0
HasRows m rows = map (import_row host_rows m) m.imports ≡ map Some rows
