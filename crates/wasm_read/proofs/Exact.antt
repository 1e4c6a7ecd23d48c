-- The reader of modules gives exactly the module that the bytes spell.
use Rattle.std.proofs.Common.{◌≡◌, ℕ, List, Some, None, Result, Ok, Err, sym, ◌∙◌}
use Rattle.std.specs.Prelude.{IfOk}
use Rattle.wasm_spec.specs.declared.module.Module.{Module}
use Rattle.wasm_spec.specs.Binary.{ModuleBytes}
use Rattle.wasm_read.specs.declared.error.ReadModErr.{ReadModErr}
use Rattle.wasm_read.specs.declared.error.ReadModErr.TheVariants.{NotAModule, NoMemory}
use Rattle.wasm_read.specs.Reading.{module_at}
use Rattle.wasm_read.specs.Gives.{Is, IsUnlessMemory}
use Rattle.wasm_read.proofs.Laws.{some_is}
use Rattle.wasm_read.proofs.ModuleLaws.{module_takes, module_again}

pub found : (bs : List ℕ) (r : Result Module ReadModErr) → Is (module_at bs) r → IfOk r (λ m. ModuleBytes m bs)
found bs (Ok m) h = module_takes bs m h
found bs (Err e) h = tt

pub only : (bs : List ℕ) (r : Result Module ReadModErr) → Is (module_at bs) r → (m : Module) → ModuleBytes m bs → IsUnlessMemory m r
only bs (Ok x) h m b = some_is x m (sym h ∙ module_again bs m b)
only bs (Err NotAModule) h m b = let e : None ≡ Some m = sym h ∙ module_again bs m b in cc
only bs (Err NoMemory) h m b = tt
