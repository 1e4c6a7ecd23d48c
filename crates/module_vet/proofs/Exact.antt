-- The defined verdict is exactly the true one.
use Rattle.std.proofs.Common.{◌≡◌, ℕ, List, Result, Ok, Err, refl, sym, ap, ◌∙◌, subst}
use Rattle.wasm_spec.specs.declared.module.Module.{Module}
use Rattle.module_spec.specs.Loading.{loaded}
use Rattle.module_spec.specs.declared.flaw.Flaw.{Flaw}
use Rattle.module_loader.specs.declared.error.LoadErr.{LoadErr}
use Rattle.module_loader.specs.declared.error.LoadErr.TheVariants.{Flawed, NoMemory}
use Rattle.module_loader.proofs.Lemmas.{exact as loaded_exact}
use Rattle.module_vet.specs.declared.Sizes.{Sizes}
use Rattle.module_vet.specs.Verdict.{IsExact, IsVerdict, IsVerdictUnlessMemory, GivesVerdict, sizes_if, verdict_of}

said_of : (bytes : List ℕ) (r : Result Module Flaw) → loaded bytes ≡ r → IsVerdict bytes (sizes_if r)
said_of bytes (Ok m) e = (m, (loaded_exact bytes (Ok m)).0 e, refl)
said_of bytes (Err flaw) e = (loaded_exact bytes (Err flaw)).0 e

said : (bytes : List ℕ) → IsVerdict bytes (verdict_of bytes)
unfolding verdict_of
said bytes = said_of bytes (loaded bytes) refl

so : (bytes : List ℕ) (verdict : Result Sizes Flaw) → IsVerdict bytes verdict → verdict_of bytes ≡ verdict
unfolding verdict_of
so bytes (Ok sizes) h = ap sizes_if ((loaded_exact bytes (Ok h.0)).1 h.1) ∙ ap Ok (sym h.2)
so bytes (Err flaw) h = ap sizes_if ((loaded_exact bytes (Err flaw)).1 h)

pub exact : IsExact
exact bytes verdict = (λ e. subst (IsVerdict bytes) e (said bytes), so bytes verdict)

-- the code's verdict is the defined one
pub gives : (bytes : List ℕ) (r : Result Sizes LoadErr) → IsVerdictUnlessMemory bytes r → GivesVerdict (verdict_of bytes) r
gives bytes (Ok sizes) h = so bytes (Ok sizes) h
gives bytes (Err (Flawed flaw)) h = so bytes (Err flaw) h
gives bytes (Err NoMemory) h = tt
