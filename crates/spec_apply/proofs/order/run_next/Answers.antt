use Rattle.std.proofs.Common.{ℕ, ◌+◌, sym, ap, ◌∙◌}
use Rattle.ledger_apply.specs.Done.{effect_of}
use Rattle.spec_apply.proofs.Passes.{next_again, next_kept, on_ok}
use Rattle.spec_apply.proofs.order.run_next.Goals as goal

pub returns-then-agrees-clause-next : goal.returns-then-agrees-clause-next
returns-then-agrees-clause-next c = λ opening on are.
    let put = c.in_ok-put_in.ensures in
    next_kept c.args.header.now c.args.verdicts.now opening c.args.envelope.now c.args.pass.now _ c.args.run on
    (sym c.if-agrees.true ∙ c.agrees.ensures opening c.args.pass.now.entries are)
    put.state (put.moved opening are) (ap (λ (n : ℕ). n + 1) put.kept)

pub returns-clause-next : goal.returns-clause-next
returns-clause-next c =
    let put = c.put_in-2.ensures in
    on_ok c.put_in-2.result
    (λ state moved kept. λ opening on are.
    next_again c.args.header.now c.args.verdicts.now opening c.args.envelope.now c.args.pass.now c.put_in-2.new.pass c.args.run on
    (effect_of c.in_ok-again.again.done) (sym c.if-agrees.false ∙ c.agrees.ensures opening c.args.pass.now.entries are)
    c.in_ok-again.ensures.run.effect state (moved opening are) kept)
    put.state put.moved put.kept
