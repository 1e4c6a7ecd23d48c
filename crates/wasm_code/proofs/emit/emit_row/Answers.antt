use Rattle.std.proofs.Common.{take, get_or, sym, subst, arith}
use Rattle.std.proofs.lemmas.List.{take_more, take_all}
use Rattle.wasm_code.specs.Emitted.{RowBegun, RowEmitted}
use Rattle.wasm_code.proofs.EmitLaws.{on_ok, row_none, row_more, row_all}
use Rattle.wasm_code.proofs.emit.emit_row.Goals as goal

pub loop-depth-init : goal.loop-depth-init
loop-depth-init c = row_none c.args.out.now c.args.height

pub loop-depth-preserved : goal.loop-depth-preserved
loop-depth-preserved c =
    let xs = c.args.depths.now in
    let i = c.loop-depth.depth-index in
    subst (λ ks. RowBegun c.args.out.now c.jump.new.out c.args.height ks) (sym (take_more xs i 0 (omega arith)))
    (row_more c.args.out.now c.loop-depth.out c.jump.new.out c.args.height (get_or xs i 0) (take i xs) c.at-label.result c.loop-depth.invariant c.at-label.ensures c.in_ok-jump.ensures)

pub returns : goal.returns
returns c =
    let xs = c.args.depths.now in
    let i = c.loop-depth.depth-index in
    on_ok c.jump-2.result _ _ c.jump-2.ensures (λ put.
    subst (λ ks. RowEmitted c.args.out.now c.jump-2.new.out c.args.height ks c.args.other) (take_all i xs (omega arith))
    (row_all c.args.out.now c.loop-depth.out c.jump-2.new.out c.args.height c.args.other (take i xs) c.at-label-2.result c.loop-depth.invariant c.at-label-2.ensures put))
