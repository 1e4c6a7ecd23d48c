use Rattle.std.proofs.Common.{sym, subst}
use Rattle.wasm_read.specs.declared.error.ReadModErr.{ReadModErr}
use Rattle.std.proofs.lemmas.Result.{err_from_is_err_and}
use Rattle.wasm_read.specs.Reading.{row_at}
use Rattle.wasm_read.proofs.RowSteps.{one_more, refused}
use Rattle.wasm_read.proofs.Exits.{Refuses, part_refuses, refuses_on, gives_err}
use Rattle.wasm_read.proofs.binary.row.Goals as goal

pub loop-preserved : goal.loop-preserved
loop-preserved g c =
    let read = g.T.Binary.read_at in
    rw c.in_ok-push.ensures.items
    (one_more read c.loop.items.items c.args.count c.loop.counter c.loop.input (row_at read c.args.count c.args.input.now) c.loop.invariant c.in_ok-read.field-0 c.read.new.input c.loop-test.true c.in_ok-read.ensures)

pub returns-in_err-read : goal.returns-in_err-read
returns-in_err-read g c =
    let read = g.T.Binary.read_at in
    let q = err_from_is_err_and c.from_residual.result c.from_residual.ensures.1 in
    gives_err (λ v. v.items) (row_at read c.args.count) c.args.input.now c.read.new.input c.from_residual.result q.0 q.1
    (subst (λ (e : ReadModErr). Refuses (row_at read c.args.count c.args.input.now) e) (sym q.2)
    (refuses_on (read c.loop.input) _ c.in_err-read.field-0.0
    (refused read c.loop.items.items c.args.count c.loop.counter c.loop.input (row_at read c.args.count c.args.input.now) c.loop.invariant c.loop-test.true)
    (part_refuses (λ x. x) read c.loop.input c.read.new.input c.in_err-read.field-0.0 c.in_err-read.ensures)))
