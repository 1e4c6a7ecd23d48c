use Rattle.std.proofs.Common.{◌≡◌, ◌+◌, [], ◌∷◌, ◌++◌, length, take, sym, ap, ◌∙◌, subst, arith}
use Rattle.std.proofs.lemmas.List.{take_more, take_all}
use Rattle.wasm_spec.specs.Code.{end, block, loop, choose}
use Rattle.wasm_spec.specs.Views.{before, code_of}
use Rattle.wasm_code.specs.Closed.{Closed}
use Rattle.wasm_code.specs.Emitted.{Emitted, EmittedAll}
use Rattle.wasm_code.proofs.CodeLaws.{weight_at, closed_at}
use Rattle.wasm_code.proofs.EmitLaws.{all_before, emitted_same, emitted_block, emitted_loop, emitted_if, emitted_then, emitted_all}
use Rattle.wasm_code.proofs.emit.+emit.Goals as goal

pub emit_all-emit_one-requires : goal.emit_all-emit_one-requires
emit_all-emit_one-requires t c =
    let is = c.args.instructions.now in
    let i = c.instruction-item.result in
    let smaller = weight_at is c.loop-instruction.instruction-index i c.loop-instruction-test.true c.instruction-item.is in
    let closed = closed_at c.args.module.now (length c.args.out.now.labels) is c.loop-instruction.instruction-index i c.loop-instruction-test.true c.instruction-item.is c.requires.closed in
    (omega (arith, smaller, c.decreases), (subst (λ os. Closed c.args.module.now (length os) (before i end)) (sym c.loop-instruction.invariant.placed.adds.labels) closed, c.loop-instruction.invariant.bound))

pub emit_all-loop-instruction-preserved : goal.emit_all-loop-instruction-preserved
emit_all-loop-instruction-preserved t c =
    let m = c.args.module.now in
    let is = c.args.instructions.now in
    let e : take (c.loop-instruction.instruction-index + 1) is ≡ take c.loop-instruction.instruction-index is ++ c.instruction-item.result ∷ [] =
    take_more is c.loop-instruction.instruction-index c.instruction-item.result c.loop-instruction-test.true ∙ ap (λ x. take c.loop-instruction.instruction-index is ++ x ∷ []) (sym c.instruction-item.is) in
    record {
      placed = subst (λ l. Emitted m c.args.out.now c.emit_one.new.out c.args.height c.in_ok-current_height.current_height (all_before l)) (sym e)
          (emitted_then m c.args.out.now c.loop-instruction.out c.emit_one.new.out c.args.height c.loop-instruction.current_height c.in_ok-current_height.current_height (take c.loop-instruction.instruction-index is) c.instruction-item.result c.loop-instruction.invariant.placed c.in_ok-current_height.ensures.placed);
      bound = c.in_ok-current_height.ensures.bound;
    }

pub emit_all-returns : goal.emit_all-returns
emit_all-returns t c =
    let m = c.args.module.now in
    let is = c.args.instructions.now in
    subst (λ l. EmittedAll m c.args.out.now c.loop-instruction.out c.args.height (code_of l)) (take_all c.loop-instruction.instruction-index is (omega arith))
    (emitted_all m c.args.out.now c.loop-instruction.out c.args.height c.loop-instruction.current_height (take c.loop-instruction.instruction-index is) c.loop-instruction.invariant.placed)

pub emit_one-returns-in_ok-emit_all-in-Block-clause-placed :
    goal.emit_one-returns-in_ok-emit_all-in-Block-clause-placed
emit_one-returns-in_ok-emit_all-in-Block-clause-placed t c =
    let m = c.args.module.now in
    let a = c.args.out.now in
    let e = c.close_label.new.out in
    let r = c.in-Block.result_type in
    let body = c.in-Block.body in
    let h = c.args.height in
    let h' = c.higher-in-Block.result in
    let inner = subst (λ x. EmittedAll m c.open_label.new.out c.emit_all.new.out h x) c.as_slice.ensures c.in_ok-emit_all-in-Block.ensures in
    emitted_same m a e h h' (block r body) (before c.args.instruction.now) (λ rest. ap (λ i. before i rest) c.in-Block.is)
    (emitted_block m a c.put-in-Block.new.out c.open_label.new.out c.emit_all.new.out e r body h h' c.in_ok-target-in-Block.target
    c.in_ok-put-in-Block.ensures c.in_ok-target-in-Block.ensures inner c.close_label.ensures (c.higher-in-Block.ensures ∙ ap (λ n. h + n) c.arity.ensures.value))

pub emit_one-returns-in_ok-emit_all-in-Loop-clause-placed :
    goal.emit_one-returns-in_ok-emit_all-in-Loop-clause-placed
emit_one-returns-in_ok-emit_all-in-Loop-clause-placed t c =
    let m = c.args.module.now in
    let a = c.args.out.now in
    let e = c.forget_label.new.out in
    let r = c.in-Loop.result_type in
    let body = c.in-Loop.body in
    let h = c.args.height in
    let h' = c.higher-in-Loop.result in
    let inner = subst (λ x. EmittedAll m c.open_label-in-Loop.new.out c.emit_all-in-Loop.new.out h x) c.as_slice-in-Loop.ensures c.in_ok-emit_all-in-Loop.ensures in
    emitted_same m a e h h' (loop r body) (before c.args.instruction.now) (λ rest. ap (λ i. before i rest) c.in-Loop.is)
    (emitted_loop m a c.put-in-Loop.new.out c.open_label-in-Loop.new.out c.emit_all-in-Loop.new.out e r body c.len-start.result h h' c.in_ok-open_label-in-Loop.field-0
    c.in_ok-put-in-Loop.ensures c.len-start.ensures c.in_ok-open_label-in-Loop.ensures inner c.forget_label.ensures (c.higher-in-Loop.ensures ∙ ap (λ n. h + n) c.arity-in-Loop.ensures.value))

pub emit_one-returns-in_ok-emit_all-in-If-2-clause-placed :
    goal.emit_one-returns-in_ok-emit_all-in-If-2-clause-placed
emit_one-returns-in_ok-emit_all-in-If-2-clause-placed t c =
    let m = c.args.module.now in
    let a = c.args.out.now in
    let r = c.in-If.result_type in
    let below = c.saturating_sub-below-in-If.result in
    let h = c.args.height in
    let h' = c.higher-in-If.result in
    let yes = subst (λ x. EmittedAll m c.open_label-in-If.new.out c.emit_all-in-If.new.out below x) c.as_slice-in-If.ensures c.in_ok-emit_all-in-If.ensures in
    let no = subst (λ x. EmittedAll m c.put-in-If-2.new.out c.emit_all-in-If-2.new.out below x) c.as_slice-in-If-2.ensures c.in_ok-emit_all-in-If-2.ensures in
    emitted_same m a c.close_label-in-If.new.out h h' (choose r c.in-If.yes c.in-If.no) (before c.args.instruction.now) (λ rest. ap (λ i. before i rest) c.in-If.is)
    (emitted_if m a c.put-in-If.new.out c.open_label-in-If.new.out c.emit_all-in-If.new.out c.put-in-If-2.new.out c.emit_all-in-If-2.new.out c.patch.new.out c.close_label-in-If.new.out r c.in-If.yes c.in-If.no c.len-test.result c.len-skip.result h below h' c.in_ok-target-in-If.target
    c.saturating_sub-below-in-If.ensures c.len-test.ensures c.in_ok-put-in-If.ensures c.in_ok-target-in-If.ensures yes c.len-skip.ensures c.in_ok-put-in-If-2.ensures no c.patch.ensures c.close_label-in-If.ensures (c.higher-in-If.ensures ∙ ap (λ n. below + n) c.arity-in-If.ensures.value))
