use Rattle.std.proofs.Common.{sym, subst}
use Rattle.wasm_code.specs.Emitted.{EmittedAll, Opens, Closes}
use Rattle.wasm_code.proofs.EmitLaws.{function_emitted}
use Rattle.wasm_code.proofs.emit.emit_function.Goals as goal

pub returns : goal.returns
returns c =
    let m = c.args.module.now in
    let f = c.args.function.now in
    let a = c.args.out.now in
    let b = c.open_label.new.out in
    let d = c.emit_all.new.out in
    let carried = c.result_of-carried.result in
    let r = c.result_of-carried.ensures in
    let id = c.in_ok-target.target in
    let body = subst (λ x. EmittedAll m (record b { home = record { target = id; result = carried; height = 0 } }) d 0 x) c.as_slice.ensures c.in_ok-emit_all.ensures in
    function_emitted m a b d c.close_label.new.out c.put.new.out f c.in-Some.function_type.now c.len-pc.result id c.requires.labels (sym c.in-Some.ensures)
    (subst (λ x. Opens a b 0 x 0 id) r c.in_ok-target.ensures)
    (subst (λ x. EmittedAll m (record b { home = record { target = id; result = x; height = 0 } }) d 0 f.body) r body)
    (subst (λ x. Closes d c.close_label.new.out id x) r c.close_label.ensures)
    c.in_ok-put.ensures c.len-pc.ensures
