use Rattle.std.proofs.Common.{length, ap, ◌∙◌, subst}
use Rattle.std.specs.Prelude.{slice_get}
use Rattle.wasm_spec.specs.declared.instructions.Control.TheVariants as jump
use Rattle.wasm_spec.specs.Code.{control}
use Rattle.wasm_code.specs.Placed.{height_after_call}
use Rattle.wasm_code.specs.Emitted.{RowEmitted, Puts}
use Rattle.wasm_code.specs.declared.step.Step.TheVariants as step
use Rattle.wasm_code.proofs.EmitLaws.{emitted_same, emitted_br, emitted_br_if, emitted_table, emitted_return, emitted_call, emitted_call_indirect}
use Rattle.wasm_code.proofs.emit.emit_control.Goals as goal

pub returns-in_ok-jump-in-Br-clause-placed : goal.returns-in_ok-jump-in-Br-clause-placed
returns-in_ok-jump-in-Br-clause-placed c =
    let h = c.args.height in
    emitted_same c.args.module.now c.args.out.now c.jump.new.out h h (control (jump.Br c.in-Br.depth)) (control c.args.instruction.now) (λ rest. ap (λ i. control i rest) c.in-Br.is)
    (emitted_br c.args.module.now c.args.out.now c.jump.new.out c.in-Br.depth h h c.at-label.result c.at-label.ensures c.in_ok-jump-in-Br.ensures)

pub returns-in_ok-jump-in-BrIf-clause-placed : goal.returns-in_ok-jump-in-BrIf-clause-placed
returns-in_ok-jump-in-BrIf-clause-placed c =
    let h = c.args.height in
    let h' = c.saturating_sub-below.result in
    emitted_same c.args.module.now c.args.out.now c.jump-in-BrIf.new.out h h' (control (jump.BrIf c.in-BrIf.depth)) (control c.args.instruction.now) (λ rest. ap (λ i. control i rest) c.in-BrIf.is)
    (emitted_br_if c.args.module.now c.args.out.now c.jump-in-BrIf.new.out c.in-BrIf.depth h h' c.at-label-in-BrIf.result c.saturating_sub-below.ensures c.at-label-in-BrIf.ensures c.in_ok-jump-in-BrIf.ensures)

pub returns-in_ok-emit_row-in-BrTable-clause-placed :
    goal.returns-in_ok-emit_row-in-BrTable-clause-placed
returns-in_ok-emit_row-in-BrTable-clause-placed c =
    let h = c.args.height in
    let ks = c.in-BrTable.depths in
    let k = c.in-BrTable.other in
    let put = subst (λ xs. Puts c.args.out.now c.put-in-BrTable.new.out (step.Table (length xs))) c.as_slice.ensures c.in_ok-put-in-BrTable.ensures in
    let row = subst (λ xs. RowEmitted c.put-in-BrTable.new.out c.emit_row.new.out c.saturating_sub.result xs k) c.as_slice-in-BrTable.ensures c.in_ok-emit_row-in-BrTable.ensures in
    emitted_same c.args.module.now c.args.out.now c.emit_row.new.out h h (control (jump.BrTable ks k)) (control c.args.instruction.now) (λ rest. ap (λ i. control i rest) c.in-BrTable.is)
    (emitted_table c.args.module.now c.args.out.now c.put-in-BrTable.new.out c.emit_row.new.out ks k h c.saturating_sub.result h c.saturating_sub.ensures put row)

pub returns-in_ok-jump-in-Return-clause-placed : goal.returns-in_ok-jump-in-Return-clause-placed
returns-in_ok-jump-in-Return-clause-placed c =
    let h = c.args.height in
    emitted_same c.args.module.now c.args.out.now c.jump-in-Return.new.out h h (control jump.Return) (control c.args.instruction.now) (λ rest. ap (λ i. control i rest) c.in-Return.is)
    (emitted_return c.args.module.now c.args.out.now c.jump-in-Return.new.out h h c.in_ok-jump-in-Return.ensures)

pub returns-in_ok-put-in-Call-clause-placed : goal.returns-in_ok-put-in-Call-clause-placed
returns-in_ok-put-in-Call-clause-placed c =
    let h = c.args.height in
    let h' = c.after_call.result in
    emitted_same c.args.module.now c.args.out.now c.put-in-Call.new.out h h' (control (jump.Call c.in-Call.function)) (control c.args.instruction.now) (λ rest. ap (λ i. control i rest) c.in-Call.is)
    (emitted_call c.args.module.now c.args.out.now c.put-in-Call.new.out c.in-Call.function h h'
    (c.after_call.ensures.value ∙ ap (λ t. height_after_call t h) c.function_type-called.ensures) c.in_ok-put-in-Call.ensures)

pub returns-in_ok-put-in-CallIndirect-clause-placed :
    goal.returns-in_ok-put-in-CallIndirect-clause-placed
returns-in_ok-put-in-CallIndirect-clause-placed c =
    let h = c.args.height in
    let h' = c.after_call-in-CallIndirect.result in
    let t = c.in-CallIndirect.type_index in
    let m = c.args.module.now in
    emitted_same m c.args.out.now c.put-in-CallIndirect.new.out h h' (control (jump.CallIndirect t)) (control c.args.instruction.now) (λ rest. ap (λ i. control i rest) c.in-CallIndirect.is)
    (emitted_call_indirect m c.args.out.now c.put-in-CallIndirect.new.out t h h'
    (c.after_call-in-CallIndirect.ensures.value ∙ ap (λ t. height_after_call t c.saturating_sub-in-CallIndirect.result) c.type_at-called.ensures ∙ ap (height_after_call (slice_get m.types t)) c.saturating_sub-in-CallIndirect.ensures) c.in_ok-put-in-CallIndirect.ensures)
