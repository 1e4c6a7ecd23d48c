-- The verdict on bytes as a WebAssembly module (core sections 3 and 5; the order of flaws is own).
use Rattle.std.specs.Prelude.{◌≡◌, ◌↔◌, ℕ, List, [], ◌∷◌, length, Result, Ok, Err, ⊤}
use Rattle.wasm_spec.specs.declared.module.Module.{Module}
use Rattle.wasm_spec.specs.declared.types.ResizableLimits.{ResizableLimits}
use Rattle.module_spec.specs.Loading.{IsLoaded, IsModule, loaded}
use Rattle.module_spec.specs.declared.flaw.Flaw.{Flaw}
use Rattle.module_loader.specs.declared.error.LoadErr.{LoadErr}
use Rattle.module_loader.specs.declared.error.LoadErr.TheVariants.{Flawed, NoMemory}
use Rattle.module_vet.specs.declared.Sizes.{Sizes}

-- the initial size of a module's memory, in pages
abbrev pub least_pages : List ResizableLimits → ℕ
least_pages [] = 0
least_pages (first ∷ others) = first.min

-- the sizes of a module
abbrev pub sizes_of : Module → Sizes
sizes_of m = record {
  functions = length m.functions;
  imports = length m.imports;
  exports = length m.exports;
  pages = least_pages m.memories;
}

-- ---- by the standard's relations

-- the verdict is true of the module that the bytes encode, or they encode none
abbrev pub IsVerdict : List ℕ → Result Sizes Flaw → Type 0
IsVerdict bytes (Ok sizes) = (m : Module) × IsModule bytes m × (sizes ≡ sizes_of m)
IsVerdict bytes (Err flaw) = IsLoaded bytes (Err flaw)

-- ---- as a function

abbrev pub sizes_if : Result Module Flaw → Result Sizes Flaw
sizes_if (Ok m) = Ok (sizes_of m)
sizes_if (Err flaw) = Err flaw

unfoldable pub verdict_of : List ℕ → Result Sizes Flaw
verdict_of bytes = sizes_if (loaded bytes)

-- The function returns exactly the true verdict.
abbrev pub IsExact : Type 0
IsExact = (bytes : List ℕ) (verdict : Result Sizes Flaw) → (verdict_of bytes ≡ verdict) ↔ IsVerdict bytes verdict

-- ---- results of the code

abbrev pub IsVerdictUnlessMemory : List ℕ → Result Sizes LoadErr → Type 0
IsVerdictUnlessMemory bytes (Ok sizes) = IsVerdict bytes (Ok sizes)
IsVerdictUnlessMemory bytes (Err (Flawed flaw)) = IsVerdict bytes (Err flaw)
IsVerdictUnlessMemory bytes (Err NoMemory) = ⊤

abbrev pub GivesVerdict : Result Sizes Flaw → Result Sizes LoadErr → Type 0
GivesVerdict verdict (Ok sizes) = verdict ≡ Ok sizes
GivesVerdict verdict (Err (Flawed flaw)) = verdict ≡ Err flaw
GivesVerdict verdict (Err NoMemory) = ⊤
