-- The defined result of loading is exactly the true one.
use Rattle.std.proofs.Common.{◌≡◌, ℕ, Bool, true, false, List, Option, Some, None, Result, Ok, Err, refl, sym, ap, ◌∙◌, subst}
use Rattle.std.specs.Prelude.{◌&&◌, if◌then◌else◌}
use Rattle.wasm_spec.specs.Binary.{ModuleBytes}
use Rattle.wasm_spec.specs.Typing.{FunctionTyped, OutsideValid, Typed}
use Rattle.wasm_spec.specs.declared.module.Module.{Module}
use Rattle.wasm_read.specs.Reading.{module_at}
use Rattle.wasm_read.proofs.Lemmas.{module_again, module_takes}
use Rattle.host_interface.specs.Rows.{host_rows}
use Rattle.module_spec.specs.Linking.{ImportLinked, import_ok}
use Rattle.module_spec.specs.Outside.{exports_differ, rules_ok}
use Rattle.wasm_check.proofs.Lemmas.{and_true, both_true, outside_back, outside_on, same_import}
use Rattle.module_loader.specs.Results.{IsExact, ModuleOfIsExact, IsLoadedUnlessMemory, Gives, IsModuleOf}
use Rattle.module_spec.specs.Loading.{IsLoaded, accepted, by_function, by_import, first_failing, function_ok, judged, judged_if, loaded, module_of}
use Rattle.module_spec.specs.declared.flaw.Flaw.{Flaw}
use Rattle.module_spec.specs.declared.flaw.Flaw.TheVariants.{NotAModule, Ill, Unlinked}
use Rattle.module_loader.specs.declared.error.LoadErr.{LoadErr}
use Rattle.module_loader.specs.declared.error.LoadErr.TheVariants.{Flawed, NoMemory}
use Rattle.module_loader.proofs.Failing.{all_pass, false_unless, first_fails, found_failing, none_fails}
use Rattle.module_loader.proofs.Functions.{same_function}

abbrev rules : Module → Bool
rules m = rules_ok m && exports_differ m.exports

rules_back : (m : Module) → rules m ≡ true → OutsideValid m
rules_back m e = let h = and_true (rules_ok m) (exports_differ m.exports) e in outside_back m h.0 h.1

rules_on : (m : Module) → OutsideValid m → rules m ≡ true
rules_on m valid = let h = outside_on m valid in both_true (rules_ok m) (exports_differ m.exports) h.0 h.1

-- ---- what is said is so

said_of_imports : (bytes : List ℕ) (m : Module) (o : Option ℕ) → ModuleBytes m bytes → Typed m → first_failing (import_ok host_rows m) m.imports ≡ o → IsLoaded bytes (by_import m o)
said_of_imports bytes m None spelled typed e = (spelled, typed, none_fails (import_ok host_rows m) (ImportLinked host_rows m) (same_import host_rows m) m.imports e)
said_of_imports bytes m (Some k) spelled typed e = (m, spelled, typed, first_fails (import_ok host_rows m) (ImportLinked host_rows m) (same_import host_rows m) m.imports k e)

said_of_functions : (bytes : List ℕ) (m : Module) (o : Option ℕ) → ModuleBytes m bytes → OutsideValid m → first_failing (function_ok m) m.functions ≡ o → IsLoaded bytes (by_function m o)
said_of_functions bytes m None spelled outside e =
    said_of_imports bytes m (first_failing (import_ok host_rows m) m.imports) spelled
    (record { outside = outside; bodies = none_fails (function_ok m) (FunctionTyped m) (same_function m) m.functions e }) refl
said_of_functions bytes m (Some i) spelled outside e =
    let f = first_fails (function_ok m) (FunctionTyped m) (same_function m) m.functions i e in
    (m, spelled, (outside, (i, f.0, refl, f.1, f.2, f.3)))

said_of_rules : (bytes : List ℕ) (m : Module) (b : Bool) → ModuleBytes m bytes → rules m ≡ b → IsLoaded bytes (if b then by_function m (first_failing (function_ok m) m.functions) else Err (Ill None))
said_of_rules bytes m true spelled e = said_of_functions bytes m (first_failing (function_ok m) m.functions) spelled (rules_back m e) refl
said_of_rules bytes m false spelled e = (m, spelled, λ valid. (let clash : false ≡ true = sym e ∙ rules_on m valid in cc))

said_of_module : (bytes : List ℕ) (o : Option Module) → module_at bytes ≡ o → IsLoaded bytes (judged_if o)
said_of_module bytes None e = λ m spelled. (let clash : None ≡ Some m = sym e ∙ module_again bytes m spelled in cc)
said_of_module bytes (Some m) e = said_of_rules bytes m (rules m) (module_takes bytes m e) refl

said : (bytes : List ℕ) → IsLoaded bytes (loaded bytes)
unfolding loaded
said bytes = said_of_module bytes (module_at bytes) refl

-- ---- the true verdict is the defined one

none_of : (bytes : List ℕ) (o : Option Module) → module_at bytes ≡ o → ((m : Module) → ModuleBytes m bytes → ⊥) → judged_if o ≡ Err NotAModule
none_of bytes None e none = refl
none_of bytes (Some m) e none = absurd (none m (module_takes bytes m e))

of_outside : (m : Module) → OutsideValid m → judged m ≡ by_function m (first_failing (function_ok m) m.functions)
of_outside m outside = rw (rules_on m outside) refl

of_typed : (m : Module) → Typed m → judged m ≡ by_import m (first_failing (import_ok host_rows m) m.imports)
of_typed m typed = of_outside m typed.outside ∙ ap (by_function m) (all_pass (function_ok m) (FunctionTyped m) (same_function m) m.functions typed.bodies)

of_module : (bytes : List ℕ) (verdict : Result Module Flaw) → IsLoaded bytes verdict → judged_if (module_at bytes) ≡ verdict
of_module bytes (Ok m) h =
    ap judged_if (module_again bytes m h.0) ∙ of_typed m h.1
    ∙ ap (by_import m) (all_pass (import_ok host_rows m) (ImportLinked host_rows m) (same_import host_rows m) m.imports h.2)
of_module bytes (Err NotAModule) h = none_of bytes (module_at bytes) refl h
of_module bytes (Err (Ill None)) h =
    let broken : rules h.0 ≡ false = false_unless (rules h.0) (λ e. h.2 (rules_back h.0 e)) in
    ap judged_if (module_again bytes h.0 h.1) ∙ rw broken refl
of_module bytes (Err (Ill (Some f))) h =
    let ill = h.2.1 in
    ap judged_if (module_again bytes h.0 h.1) ∙ of_outside h.0 h.2.0
    ∙ ap (by_function h.0) (found_failing (function_ok h.0) (FunctionTyped h.0) (same_function h.0) h.0.functions ill.0 ill.1 ill.3 ill.4 ill.5)
    ∙ ap (λ n. Err (Ill (Some n))) (sym ill.2)
of_module bytes (Err (Unlinked k)) h =
    let first = h.3 in
    ap judged_if (module_again bytes h.0 h.1) ∙ of_typed h.0 h.2
    ∙ ap (by_import h.0) (found_failing (import_ok host_rows h.0) (ImportLinked host_rows h.0) (same_import host_rows h.0) h.0.imports k first.0 first.1 first.2 first.3)

so : (bytes : List ℕ) (verdict : Result Module Flaw) → IsLoaded bytes verdict → loaded bytes ≡ verdict
unfolding loaded
so bytes verdict h = of_module bytes verdict h

pub exact : IsExact
exact bytes verdict = (λ e. subst (IsLoaded bytes) e (said bytes), so bytes verdict)

accepts : (r : Result Module Flaw) (m : Module) → accepted r ≡ Some m → r ≡ Ok m
accepts (Ok n) m e = let same : n ≡ m = cc in ap Ok same
accepts (Err flaw) m e = cc

pub module_exact : ModuleOfIsExact
module_exact bytes m = (λ e. subst (IsLoaded bytes) (accepts (loaded bytes) m e) (said bytes), λ h. ap accepted (so bytes (Ok m) h))

-- the code's result is the defined one

pub gives : (bytes : List ℕ) (r : Result Module LoadErr) → IsLoadedUnlessMemory bytes r → Gives (loaded bytes) r
gives bytes (Ok m) h = so bytes (Ok m) h
gives bytes (Err (Flawed flaw)) h = so bytes (Err flaw) h
gives bytes (Err NoMemory) h = tt

pub gives_module : (bytes : List ℕ) (r : Result Module LoadErr) → IsLoadedUnlessMemory bytes r → IsModuleOf (module_of bytes) r
gives_module bytes (Ok m) h = ap accepted (so bytes (Ok m) h)
gives_module bytes (Err (Flawed flaw)) h = ap accepted (so bytes (Err flaw) h)
gives_module bytes (Err NoMemory) h = tt
