use Rattle.std.proofs.Common.{◌≡◌, ◌+◌, [], ◌∷◌, ◌++◌, take, refl, sym, ap, ◌∙◌, subst, arith}
use Rattle.std.specs.List.{AllByRecursion}
use Rattle.std.proofs.lemmas.List.{take_more, take_all}
use Rattle.wasm_spec.specs.Typing.{FunctionTyped}
use Rattle.wasm_code.proofs.CodeLaws.{all_at, function_closed}
use Rattle.wasm_code.proofs.EmitLaws.{Compiling, compiling_none, compiling_more, compiled}
use Rattle.wasm_code.proofs.emit.compile.Goals as goal

pub loop-function-init : goal.loop-function-init
loop-function-init c =
    let m = c.args.module.now in
    subst (λ es. Compiling m c.emit_imports.new.out [] es) (sym c.new-entries.ensures.items) (compiling_none m c.emit_imports.new.out c.in_ok-emit_imports.ensures)

pub emit_function-requires-clause-closed : goal.emit_function-requires-clause-closed
emit_function-requires-clause-closed c =
    let m = c.args.module.now in
    let fs = c.as_slice-function-items.result.now in
    let f = c.function-item.result in
    let typed = subst (λ xs. AllByRecursion (FunctionTyped m) xs) (sym c.as_slice-function-items.ensures) c.requires.bodies in
    function_closed m f (all_at (FunctionTyped m) fs c.loop-function.function-index f c.loop-function-test.true c.function-item.is typed)

pub loop-function-preserved : goal.loop-function-preserved
loop-function-preserved c =
    let m = c.args.module.now in
    let fs = c.as_slice-function-items.result.now in
    let f = c.function-item.result in
    let i = c.loop-function.function-index in
    let out = c.emit_function.new.out in
    let taken : take (i + 1) fs ≡ take i fs ++ f ∷ [] = take_more fs i f c.loop-function-test.true ∙ ap (λ x. take i fs ++ x ∷ []) (sym c.function-item.is) in
    subst (λ xs. Compiling m out xs c.push.new.self.items) (sym taken)
    (subst (λ es. Compiling m out (take i fs ++ f ∷ []) es) (sym c.in_ok-push.ensures.items)
    (compiling_more m c.loop-function.out out (take i fs) c.loop-function.entries.items f c.in_ok-emit_function.field-0 c.loop-function.invariant c.in_ok-emit_function.ensures))

pub returns : goal.returns
returns c =
    let m = c.args.module.now in
    let out = c.loop-function.out in
    let es = c.loop-function.entries.items in
    let fs = c.as_slice-function-items.result.now in
    let all = subst (λ xs. Compiling m out xs es) (take_all c.loop-function.function-index fs (omega arith) ∙ c.as_slice-function-items.ensures) c.loop-function.invariant in
    compiled m out es _ all refl c.from_vec.ensures c.from_vec-2.ensures
