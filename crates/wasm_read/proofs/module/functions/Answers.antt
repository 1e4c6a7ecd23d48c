use Rattle.std.proofs.Common.{◌≡◌, ◌<◌, length, get_or, refl, sym, ap, ap₂, ◌∙◌, arith}
use Rattle.wasm_read.specs.Reading.{functions_of}
use Rattle.wasm_read.proofs.ModuleSteps.{too_few, begins, one_made, all_made, get_or_any}
use Rattle.wasm_read.proofs.module.functions.Goals as goal

pub returns-then-indices-len : goal.returns-then-indices-len
returns-then-indices-len c =
    let same : length c.as_slice-indices.result.now ≡ length c.args.type_indices = ap length c.as_slice-indices.ensures in
    let len : c.len.result ≡ length c.args.funcs = omega (arith, c.len.ensures, c.into_vec-funcs.result.ok.0, ap length c.into_vec-funcs.ensures) in
    too_few c.args.type_indices c.args.funcs (λ e. c.if-indices-len.true (same ∙ e ∙ sym len))

pub loop-locals-init : goal.loop-locals-init
loop-locals-init c =
    begins c.as_slice-indices.result.now c.into_vec-funcs.result.items c.new-functions.result.items c.new-functions.ensures.items
    (omega (arith, c.if-indices-len.false, c.len.ensures, c.into_vec-funcs.result.ok.0))

pub loop-locals-preserved : goal.loop-locals-preserved
loop-locals-preserved c =
    let ts = c.as_slice-indices.result.now in
    let n = length c.pop.new.self.items in
    let m = c.loop-locals.invariant in
    let index : c.len-in-Some.result ≡ n = omega (arith, c.len-in-Some.ensures, c.pop.new.self.ok.0) in
    let lt : n < length ts = omega (arith, m.enough, c.loop-locals.funcs.ok.0, c.pop.new.self.ok.0, c.in-Some.ensures.cases) in
    one_made ts c.into_vec-funcs.result.items c.loop-locals.funcs.items c.pop.new.self.items c.loop-locals.functions.items c.push.new.self.items _ (get_or ts c.len-in-Some.result 0) _ c.in-Some.ensures.items (ap (λ k. get_or ts k 0) index ∙ get_or_any ts n 0 (get_or ts c.len-in-Some.result 0) lt) refl c.in_ok-push.ensures.items m

pub returns : goal.returns
returns c =
    ap₂ functions_of (sym c.as_slice-indices.ensures) (sym c.into_vec-funcs.ensures)
    ∙ all_made c.as_slice-indices.result.now c.into_vec-funcs.result.items c.loop-locals.funcs.items c.loop-locals.functions.items c.from_vec.result (omega (arith, c.in_default.ensures.cases.0, c.loop-locals.funcs.ok.0)) (c.from_vec.ensures ∙ c.reverse.ensures.items) c.loop-locals.invariant
