use Rattle.std.proofs.Common.{sym, suc, length, arith}
use Rattle.std.proofs.lemmas.Result.{err_from_is_err_and}
use Rattle.wasm_read.specs.Reading.{code_at, block_at, if_at, else_at}
use Rattle.wasm_read.proofs.CodeSteps.{plain_step, control_step, block_step, loop_step, if_step, plain_shorter, control_shorter, block_shorter, if_shorter, reads_err, opcode_err, instr_err, instr_ok, all_ok, block_err, if_err, if_ok, else_err, byte_is}
use Rattle.wasm_spec.specs.Code.{Code, BlockType}
use Rattle.wasm_read.proofs.code.+code.Goals as goal

pub block-returns-in_err-expect : goal.block-returns-in_err-expect
block-returns-in_err-expect t c =
    let q = err_from_is_err_and c.from_residual-in_err-expect.result c.from_residual-in_err-expect.ensures.1 in
    reads_err (λ n. block_at (code_at n) c.args.depth) _ _ _ _ _ q.1 q.2
    (block_err c.args.depth c.args.input.now c.block_type.new.input c.inner.new.input c.expect.new.self c.in_ok-result.result c.in_ok-body.body c.in_ok-result.ensures c.in_ok-body.ensures c.in_err-expect.field-0.0 c.in_err-expect.ensures)

pub code-returns-in_err-opcode : goal.code-returns-in_err-opcode
code-returns-in_err-opcode t c =
    let q = err_from_is_err_and c.from_residual.result c.from_residual.ensures.1 in
    reads_err (λ n. code_at n c.args.depth) _ _ _ _ _ q.1 q.2
    (opcode_err c.args.depth c.args.input.now c.loop-items.items.items c.loop-items.input c.next_opcode.new.input c.loop-items.invariant c.in_err-opcode.field-0.0 c.in_err-opcode.ensures)

pub code-returns-in_err-instruction : goal.code-returns-in_err-instruction
code-returns-in_err-instruction t c =
    let q = err_from_is_err_and c.from_residual-in_err-instruction.result c.from_residual-in_err-instruction.ensures.1 in
    reads_err (λ n. code_at n c.args.depth) _ _ _ _ _ q.1 q.2
    (instr_err c.args.depth c.args.input.now c.loop-items.items.items c.loop-items.input c.next_opcode.new.input c.loop-items.invariant c.in_ok-opcode.field-0 c.in-Some.opcode c.instruction.new.input c.in_err-instruction.field-0.0 c.in_ok-opcode.ensures c.in-Some.is c.in_err-instruction.ensures)

pub code-loop-items-preserved : goal.code-loop-items-preserved
code-loop-items-preserved t c =
    instr_ok c.args.depth c.args.input.now c.loop-items.items.items c.loop-items.input c.next_opcode.new.input c.loop-items.invariant c.in_ok-opcode.field-0 c.in-Some.opcode c.instruction.new.input c.in_ok-instruction.field-0 c.push.new.self.items c.in_ok-opcode.ensures c.in-Some.is c.in_ok-instruction.ensures c.in_ok-push.ensures.items

pub code-returns : goal.code-returns
code-returns t c =
    all_ok c.args.depth c.args.input.now c.loop-items.items.items c.loop-items.input c.next_opcode.new.input c.loop-items.invariant c.from_vec.result c.in_ok-opcode.field-0 c.in_ok-opcode.ensures c.in_default.not-Some c.from_vec.ensures

pub conditional-returns-in_err-other : goal.conditional-returns-in_err-other
conditional-returns-in_err-other t c =
    let q = err_from_is_err_and c.from_residual-in_err-other.result c.from_residual-in_err-other.ensures.1 in
    reads_err (λ n. if_at (code_at n) c.args.depth) _ _ _ _ _ q.1 q.2
    (if_err c.args.depth c.args.input.now c.block_type.new.input c.inner.new.input c.otherwise.new.input c.in_ok-result.result c.in_ok-taken.taken c.in_ok-result.ensures c.in_ok-taken.ensures c.in_err-other.field-0.0 c.in_err-other.ensures)

pub conditional-returns : goal.conditional-returns
conditional-returns t c = if_ok c.args.depth c.args.input.now c.block_type.new.input c.inner.new.input c.otherwise.new.input c.in_ok-result.result c.in_ok-taken.taken c.in_ok-result.ensures c.in_ok-taken.ensures c.in_ok-other.other c.in_ok-other.ensures

pub instruction-returns-in_ok-plain-in-Plain : goal.instruction-returns-in_ok-plain-in-Plain
instruction-returns-in_ok-plain-in-Plain t c =
    let e = c.in_ok-plain-in-Plain.ensures in
    (plain_shorter c.args.opcode c.args.input.now c.plain.new.input c.in_ok-plain-in-Plain.field-0 e, λ n lt. plain_step c.args.depth c.args.opcode c.args.input.now c.plain.new.input c.in_ok-plain-in-Plain.field-0 (sym c.in-Plain.ensures) e n)

pub instruction-returns-in_ok-control-in-Control : goal.instruction-returns-in_ok-control-in-Control
instruction-returns-in_ok-control-in-Control t c =
    let e = c.in_ok-control-in-Control.ensures in
    (control_shorter c.args.opcode c.args.input.now c.control.new.input c.in_ok-control-in-Control.field-0 e, λ n lt. control_step c.args.depth c.args.opcode c.args.input.now c.control.new.input c.in_ok-control-in-Control.field-0 (sym c.in-Control.ensures) e n)

pub instruction-returns-in_ok-result-in-Block : goal.instruction-returns-in_ok-result-in-Block
instruction-returns-in_ok-result-in-Block t c =
    let x : BlockType × Code = (c.in_ok-result-in-Block.result, c.in_ok-result-in-Block.body) in
    let old = c.args.input.now in
    let e = c.in_ok-result-in-Block.ensures in
    (block_shorter (suc (length old)) c.args.depth old c.block.new.input x (e (suc (length old)) (omega arith)), λ n lt. block_step c.args.depth c.args.opcode old c.block.new.input x n (sym c.in-Block.ensures) (e n lt))

pub instruction-returns-in_ok-result-in-Loop : goal.instruction-returns-in_ok-result-in-Loop
instruction-returns-in_ok-result-in-Loop t c =
    let x : BlockType × Code = (c.in_ok-result-in-Loop.result, c.in_ok-result-in-Loop.body) in
    let old = c.args.input.now in
    let e = c.in_ok-result-in-Loop.ensures in
    (block_shorter (suc (length old)) c.args.depth old c.block-in-Loop.new.input x (e (suc (length old)) (omega arith)), λ n lt. loop_step c.args.depth c.args.opcode old c.block-in-Loop.new.input x n (sym c.in-Loop.ensures) (e n lt))

pub instruction-returns-in_ok-result-in-If : goal.instruction-returns-in_ok-result-in-If
instruction-returns-in_ok-result-in-If t c =
    let x : BlockType × (Code × Code) = (c.in_ok-result-in-If.result, (c.in_ok-result-in-If.taken, c.in_ok-result-in-If.other)) in
    let old = c.args.input.now in
    let e = c.in_ok-result-in-If.ensures in
    (if_shorter (suc (length old)) c.args.depth old c.conditional.new.input x (e (suc (length old)) (omega arith)), λ n lt. if_step c.args.depth c.args.opcode old c.conditional.new.input x n (sym c.in-If.ensures) (e n lt))

pub otherwise-returns-in_err-expect-in-5 : goal.otherwise-returns-in_err-expect-in-5
otherwise-returns-in_err-expect-in-5 t c =
    let q = err_from_is_err_and c.from_residual-in_err-expect-in-5.result c.from_residual-in_err-expect-in-5.ensures.1 in
    reads_err (λ n. else_at (code_at n) c.args.depth) _ _ _ _ _ q.1 q.2
    (else_err c.args.depth c.in_ok-byte.byte c.args.input.now c.byte.new.self c.inner.new.input c.expect.new.self c.in_ok-body-in-5.body c.in_err-expect-in-5.field-0.0 (byte_is _ _ _ c.in_ok-byte.ensures) c.in-5.is c.in_ok-body-in-5.ensures c.in_err-expect-in-5.ensures)
