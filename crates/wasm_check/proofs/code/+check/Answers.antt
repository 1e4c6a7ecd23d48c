use Rattle.std.proofs.Common.{◌≡◌, ◌+◌, ◌∷◌, drop, Some, Err, ap, ◌∙◌, sym, subst, arith}
use Rattle.std.proofs.lemmas.Result.{err_from_is_err_and}
use Rattle.wasm_spec.specs.Views.{before, code_of}
use Rattle.wasm_spec.specs.Typing.{Context, inside}
use Rattle.module_spec.specs.Check.{Shape, nothing, check_code}
use Rattle.wasm_check.specs.Checks.{ChecksOn}
use Rattle.wasm_check.specs.Contexts.{context_in}
use Rattle.wasm_check.proofs.CodeSteps.{weight_at, drop_item, all_err, body_ends}
use Rattle.wasm_check.proofs.code.+check.Goals as goal

pub check_all-check_one-requires : goal.check_all-check_one-requires
check_all-check_one-requires t c =
    let smaller = weight_at c.args.instructions.now c.loop-instruction.instruction-index c.instruction-item.result c.loop-instruction-test.true c.instruction-item.is in
    (omega (arith, smaller, c.decreases), tt)

pub check_body-returns-clause-checks : goal.check_body-returns-clause-checks
check_body-returns-clause-checks t c =
    let p = c.args.module.now in
    let x = inside c.args.label (context_in p c.args.scope.now) in
    let same : context_in p (record c.args.scope.now { labels = c.push.new.self }) ≡ x = ap (λ ls. record { module_ = p; locals = c.args.scope.now.locals.items; labels = ls; result = c.args.scope.now.result }) c.in_ok-push.ensures in
    let checked : check_code x (code_of c.args.body.now) nothing ≡ Some c.check_all.new.stack =
    subst (λ (y : Context). check_code y (code_of c.args.body.now) nothing ≡ Some c.check_all.new.stack) same
    (subst (λ (s : Shape). check_code (context_in p (record c.args.scope.now { labels = c.push.new.self })) (code_of c.args.body.now) s ≡ Some c.check_all.new.stack) c.new-stack.ensures c.in_ok-check_all.ensures.checks) in
    body_ends x c.args.result_type (code_of c.args.body.now) c.check_all.new.stack c.end.new.self c.end.result checked c.end.ensures

pub check_all-returns-in_err-check_one-clause-checks : goal.check_all-returns-in_err-check_one-clause-checks
check_all-returns-in_err-check_one-clause-checks t c =
    let p = c.args.module.now in
    let x = context_in p c.args.scope.now in
    let is = c.args.instructions.now in
    let i = c.loop-instruction.instruction-index in
    let rest = code_of (drop (i + 1) is) in
    let err = c.in_err-check_one.field-0.0 in
    let q = err_from_is_err_and c.from_residual.result c.from_residual.ensures.1 in
    let split : drop i is ≡ c.instruction-item.result ∷ drop (i + 1) is = drop_item is i c.instruction-item.result (omega arith) c.instruction-item.is in
    let whole = check_code x (code_of is) c.args.stack.now in
    let same : whole ≡ check_code x (before c.instruction-item.result rest) c.loop-instruction.stack = c.loop-instruction.invariant.1 ∙ ap (λ l. check_code x (code_of l) c.loop-instruction.stack) split in
    let fails = subst (λ (y : Context). ChecksOn (check_code y (before c.instruction-item.result rest) c.loop-instruction.stack) (Err err) (check_code y rest c.check_one.new.stack)) c.loop-instruction.invariant.0 (c.in_err-check_one.ensures.checks rest) in
    all_err c.from_residual.result q.0 err whole _ c.check_one.new.stack q.1 q.2 (subst (λ o. ChecksOn o (Err err) (check_code x rest c.check_one.new.stack)) (sym same) fails)
