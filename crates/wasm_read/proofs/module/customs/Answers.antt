use Rattle.std.proofs.Common.{◌≡◌, true, length, sym, ap, ◌∙◌, arith}
use Rattle.std.proofs.lemmas.Result.{err_from_is_err_and}
use Rattle.wasm_read.specs.Reading.{at_custom, customs_at}
use Rattle.wasm_read.proofs.CodeSteps.{byte_is}
use Rattle.wasm_read.proofs.ModuleSteps.{byte_after, custom_shorter, one_custom, no_custom, custom_err, skips_err}
use Rattle.wasm_read.proofs.module.customs.Goals as goal

pub loop-input-smaller : goal.loop-input-smaller
loop-input-smaller c =
    let s = custom_shorter c.byte.new.self c.custom.new.input c.in_ok-custom.field-0.now c.in_ok-custom.ensures in
    omega (arith, s, ap length (byte_is _ _ _ c.in_ok-byte.ensures))

pub loop-input-preserved : goal.loop-input-preserved
loop-input-preserved c =
    let t : at_custom c.loop-input.input ≡ true = sym c.at_custom.ensures ∙ c.loop-input-test.true in
    c.loop-input.invariant ∙ one_custom c.loop-input.input c.byte.new.self c.custom.new.input c.in_ok-custom.field-0.now (byte_after _ _ _ t (byte_is _ _ _ c.in_ok-byte.ensures)) c.in_ok-custom.ensures

pub returns-in_err-custom : goal.returns-in_err-custom
returns-in_err-custom c =
    let t : at_custom c.loop-input.input ≡ true = sym c.at_custom.ensures ∙ c.loop-input-test.true in
    let q = err_from_is_err_and c.from_residual-in_err-custom.result c.from_residual-in_err-custom.ensures.1 in
    skips_err customs_at _ _ _ _ _ q.1 q.2
    (custom_err c.args.input.now c.loop-input.input c.byte.new.self c.custom.new.input c.in_err-custom.field-0.0 c.loop-input.invariant (byte_after _ _ _ t (byte_is _ _ _ c.in_ok-byte.ensures)) c.in_err-custom.ensures)

pub returns : goal.returns
returns c = c.loop-input.invariant ∙ no_custom c.loop-input.input (sym c.at_custom.ensures ∙ c.loop-input-test.false)
