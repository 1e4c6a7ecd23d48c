use Rattle.std.proofs.Common.{◌≢◌, ◌<◌, refl, sym, subst, arith, ◌∙◌}
use Rattle.std.specs.Prelude.{Option}
use Rattle.wasm_spec.specs.declared.values.Value.{Value}
use Rattle.wasm_machine.specs.declared.machine.Outcome.TheVariants as outcome
use Rattle.wasm_machine.specs.declared.run.Paused.TheVariants as paused
use Rattle.wasm_code.specs.Ops.{step_of}
use Rattle.wasm_machine.specs.Machine.{Fails}
use Rattle.wasm_machine.specs.MachineState.{IsMove, machine_of}
use Rattle.wasm_machine.specs.Says.{Says, work_of}
use Rattle.wasm_machine.proofs.Ways.{never_fails, behaves_ahead}
use Rattle.wasm_machine.proofs.Measure.{move_lighter, asks_lighter}
use Rattle.wasm_machine.proofs.Events.{move_is, says_done, says_trap, says_spent, says_ask}
use Rattle.wasm_machine.proofs.QuickLaws.{found, plain_is_quick, quick_move, quick_goes, quick_traps, quick_spent}
use Rattle.wasm_spec.proofs.Lemmas.{later}
use Rattle.wasm_machine.proofs.run.run.Goals as goal

pub next_step-next-requires : goal.next_step-next-requires
next_step-next-requires c =
    never_fails c.args.source.now c.args.code.now (machine_of c.loop-machine.machine c.loop-machine.budget) c.loop-machine.invariant.0.0 c.loop-machine.invariant.0.1

pub take_plain-requires-clause-moves : goal.take_plain-requires-clause-moves
take_plain-requires-clause-moves c =
    let m = machine_of c.loop-machine.machine c.loop-machine.budget in
    let ok = never_fails c.args.source.now c.args.code.now m c.loop-machine.invariant.0.0 c.loop-machine.invariant.0.1 in
    subst (λ x. x ≢ Fails) (quick_move c.args.source.now c.args.code.now m (step_of c.next_step-next.result.now) c.next_step-next.ensures.step (plain_is_quick (step_of c.next_step-next.result.now) (sym c.is_plain.ensures ∙ c.if-is_plain.true))) ok

pub take_branch-requires-clause-moves : goal.take_branch-requires-clause-moves
take_branch-requires-clause-moves c =
    let m = machine_of c.loop-machine.machine c.loop-machine.budget in
    let ok = never_fails c.args.source.now c.args.code.now m c.loop-machine.invariant.0.0 c.loop-machine.invariant.0.1 in
    subst (λ x. x ≢ Fails) (quick_move c.args.source.now c.args.code.now m (step_of c.next_step-next.result.now) c.next_step-next.ensures.step (sym c.is_quick.ensures ∙ c.if-is_quick.true)) ok

pub take-requires-clause-moves : goal.take-requires-clause-moves
take-requires-clause-moves c =
    let m = machine_of c.loop-machine.machine c.loop-machine.budget in
    let ok = never_fails c.args.source.now c.args.code.now m c.loop-machine.invariant.0.0 c.loop-machine.invariant.0.1 in
    subst (λ x. x ≢ Fails) (found c.args.source.now c.args.code.now m (step_of c.next_step-next.result.now) c.next_step-next.ensures.step) ok

pub loop-machine-smaller-in-Goes : goal.loop-machine-smaller-in-Goes
loop-machine-smaller-in-Goes c =
    let m = machine_of c.loop-machine.machine c.loop-machine.budget in
    let n = machine_of c.take_plain.new.machine c.take_plain.new.budget in
    let goes = move_is c.args.source.now c.args.code.now m n outcome.Goes outcome.Goes (quick_goes c.args.source.now c.args.code.now m n (step_of c.next_step-next.result.now) c.take_plain.result c.next_step-next.ensures.step (plain_is_quick (step_of c.next_step-next.result.now) (sym c.is_plain.ensures ∙ c.if-is_plain.true)) c.take_plain.ensures.moves c.in-Goes.is) refl in
    move_lighter c.args.source.now c.args.code.now m n goes

pub loop-machine-preserved-in-Goes : goal.loop-machine-preserved-in-Goes
loop-machine-preserved-in-Goes c =
    let m = machine_of c.loop-machine.machine c.loop-machine.budget in
    let n = machine_of c.take_plain.new.machine c.take_plain.new.budget in
    let goes = move_is c.args.source.now c.args.code.now m n outcome.Goes outcome.Goes (quick_goes c.args.source.now c.args.code.now m n (step_of c.next_step-next.result.now) c.take_plain.result c.next_step-next.ensures.step (plain_is_quick (step_of c.next_step-next.result.now) (sym c.is_plain.ensures ∙ c.if-is_plain.true)) c.take_plain.ensures.moves c.in-Goes.is) refl in
    let less : work_of c.args.code.now n < work_of c.args.code.now m = move_lighter c.args.source.now c.args.code.now m n goes in
    let i = c.loop-machine.invariant in
    ((i.0.0, behaves_ahead c.args.source.now c.args.code.now m n i.0.0 goes i.0.1), λ r h. behaves_ahead c.args.source.now c.args.code.now m n r goes (i.1 r h), later c.args.budget.now c.loop-machine.budget c.take_plain.new.budget i.2 c.take_plain.ensures.spends, omega (arith, less, i.3))

pub returns-in-Traps-clause-says : goal.returns-in-Traps-clause-says
returns-in-Traps-clause-says c =
    let m = machine_of c.loop-machine.machine c.loop-machine.budget in
    let n = machine_of c.take_plain.new.machine c.take_plain.new.budget in
    let is = quick_traps c.args.source.now c.args.code.now m n (step_of c.next_step-next.result.now) c.take_plain.result c.in-Traps.kind c.next_step-next.ensures.step (plain_is_quick (step_of c.next_step-next.result.now) (sym c.is_plain.ensures ∙ c.if-is_plain.true)) c.take_plain.ensures.moves c.in-Traps.is in
    λ r h. says_trap c.args.source.now c.args.code.now m n r (outcome.Traps c.in-Traps.kind) c.in-Traps.kind (c.loop-machine.invariant.1 r h) is refl

pub returns-in-RunsOut-clause-says : goal.returns-in-RunsOut-clause-says
returns-in-RunsOut-clause-says c =
    let m = machine_of c.loop-machine.machine c.loop-machine.budget in
    let n = machine_of c.take_plain.new.machine c.take_plain.new.budget in
    let is = quick_spent c.args.source.now c.args.code.now m n (step_of c.next_step-next.result.now) c.take_plain.result c.next_step-next.ensures.step (plain_is_quick (step_of c.next_step-next.result.now) (sym c.is_plain.ensures ∙ c.if-is_plain.true)) c.take_plain.ensures.moves c.in-RunsOut.is in
    λ r h. says_spent c.args.source.now c.args.code.now m n r outcome.RunsOut (c.loop-machine.invariant.1 r h) is refl

pub loop-machine-smaller-in-Goes-take_branch : goal.loop-machine-smaller-in-Goes-take_branch
loop-machine-smaller-in-Goes-take_branch c =
    let m = machine_of c.loop-machine.machine c.loop-machine.budget in
    let n = machine_of c.take_branch.new.machine c.take_branch.new.budget in
    let goes = move_is c.args.source.now c.args.code.now m n outcome.Goes outcome.Goes (quick_goes c.args.source.now c.args.code.now m n (step_of c.next_step-next.result.now) c.take_branch.result c.next_step-next.ensures.step (sym c.is_quick.ensures ∙ c.if-is_quick.true) c.take_branch.ensures.moves c.in-Goes-take_branch.is) refl in
    move_lighter c.args.source.now c.args.code.now m n goes

pub loop-machine-preserved-in-Goes-take_branch : goal.loop-machine-preserved-in-Goes-take_branch
loop-machine-preserved-in-Goes-take_branch c =
    let m = machine_of c.loop-machine.machine c.loop-machine.budget in
    let n = machine_of c.take_branch.new.machine c.take_branch.new.budget in
    let goes = move_is c.args.source.now c.args.code.now m n outcome.Goes outcome.Goes (quick_goes c.args.source.now c.args.code.now m n (step_of c.next_step-next.result.now) c.take_branch.result c.next_step-next.ensures.step (sym c.is_quick.ensures ∙ c.if-is_quick.true) c.take_branch.ensures.moves c.in-Goes-take_branch.is) refl in
    let less : work_of c.args.code.now n < work_of c.args.code.now m = move_lighter c.args.source.now c.args.code.now m n goes in
    let i = c.loop-machine.invariant in
    ((i.0.0, behaves_ahead c.args.source.now c.args.code.now m n i.0.0 goes i.0.1), λ r h. behaves_ahead c.args.source.now c.args.code.now m n r goes (i.1 r h), later c.args.budget.now c.loop-machine.budget c.take_branch.new.budget i.2 c.take_branch.ensures.spends, omega (arith, less, i.3))

pub returns-in-Traps-take_branch-clause-says : goal.returns-in-Traps-take_branch-clause-says
returns-in-Traps-take_branch-clause-says c =
    let m = machine_of c.loop-machine.machine c.loop-machine.budget in
    let n = machine_of c.take_branch.new.machine c.take_branch.new.budget in
    let is = quick_traps c.args.source.now c.args.code.now m n (step_of c.next_step-next.result.now) c.take_branch.result c.in-Traps-take_branch.kind c.next_step-next.ensures.step (sym c.is_quick.ensures ∙ c.if-is_quick.true) c.take_branch.ensures.moves c.in-Traps-take_branch.is in
    λ r h. says_trap c.args.source.now c.args.code.now m n r (outcome.Traps c.in-Traps-take_branch.kind) c.in-Traps-take_branch.kind (c.loop-machine.invariant.1 r h) is refl

pub returns-in-RunsOut-take_branch-clause-says : goal.returns-in-RunsOut-take_branch-clause-says
returns-in-RunsOut-take_branch-clause-says c =
    let m = machine_of c.loop-machine.machine c.loop-machine.budget in
    let n = machine_of c.take_branch.new.machine c.take_branch.new.budget in
    let is = quick_spent c.args.source.now c.args.code.now m n (step_of c.next_step-next.result.now) c.take_branch.result c.next_step-next.ensures.step (sym c.is_quick.ensures ∙ c.if-is_quick.true) c.take_branch.ensures.moves c.in-RunsOut-take_branch.is in
    λ r h. says_spent c.args.source.now c.args.code.now m n r outcome.RunsOut (c.loop-machine.invariant.1 r h) is refl

pub loop-machine-smaller : goal.loop-machine-smaller
loop-machine-smaller c =
    let m = machine_of c.loop-machine.machine c.loop-machine.budget in
    let n = machine_of c.take.new.machine c.take.new.budget in
    let goes = move_is c.args.source.now c.args.code.now m n c.in_ok-take.field-0 outcome.Goes (subst (λ x. IsMove x c.in_ok-take.field-0 n) (sym (found c.args.source.now c.args.code.now m (step_of c.next_step-next.result.now) c.next_step-next.ensures.step)) c.in_ok-take.ensures.moves) c.in-Goes-2.is in
    move_lighter c.args.source.now c.args.code.now m n goes

pub loop-machine-preserved : goal.loop-machine-preserved
loop-machine-preserved c =
    let m = machine_of c.loop-machine.machine c.loop-machine.budget in
    let n = machine_of c.take.new.machine c.take.new.budget in
    let goes = move_is c.args.source.now c.args.code.now m n c.in_ok-take.field-0 outcome.Goes (subst (λ x. IsMove x c.in_ok-take.field-0 n) (sym (found c.args.source.now c.args.code.now m (step_of c.next_step-next.result.now) c.next_step-next.ensures.step)) c.in_ok-take.ensures.moves) c.in-Goes-2.is in
    let less : work_of c.args.code.now n < work_of c.args.code.now m = move_lighter c.args.source.now c.args.code.now m n goes in
    let i = c.loop-machine.invariant in
    ((i.0.0, behaves_ahead c.args.source.now c.args.code.now m n i.0.0 goes i.0.1), λ r h. behaves_ahead c.args.source.now c.args.code.now m n r goes (i.1 r h), later c.args.budget.now c.loop-machine.budget c.take.new.budget i.2 c.take.ensures.spends, omega (arith, less, i.3))

pub returns-in-Ends-clause-says : goal.returns-in-Ends-clause-says
returns-in-Ends-clause-says c =
    let m = machine_of c.loop-machine.machine c.loop-machine.budget in
    let n = machine_of c.take.new.machine c.take.new.budget in
    let is = subst (λ x. IsMove x c.in_ok-take.field-0 n) (sym (found c.args.source.now c.args.code.now m (step_of c.next_step-next.result.now) c.next_step-next.ensures.step)) c.in_ok-take.ensures.moves in
    λ r h. subst (λ (o : Option Value). Says c.args.source.now c.args.code.now r (paused.Done o) n) (sym c.top.ensures)
    (says_done c.args.source.now c.args.code.now m n r c.in_ok-take.field-0 (c.loop-machine.invariant.1 r h) is c.in-Ends.is)

pub returns-in-Traps-2-clause-says : goal.returns-in-Traps-2-clause-says
returns-in-Traps-2-clause-says c =
    let m = machine_of c.loop-machine.machine c.loop-machine.budget in
    let n = machine_of c.take.new.machine c.take.new.budget in
    let is = subst (λ x. IsMove x c.in_ok-take.field-0 n) (sym (found c.args.source.now c.args.code.now m (step_of c.next_step-next.result.now) c.next_step-next.ensures.step)) c.in_ok-take.ensures.moves in
    λ r h. says_trap c.args.source.now c.args.code.now m n r c.in_ok-take.field-0 c.in-Traps-2.kind (c.loop-machine.invariant.1 r h) is c.in-Traps-2.is

pub returns-in-RunsOut-2-clause-says : goal.returns-in-RunsOut-2-clause-says
returns-in-RunsOut-2-clause-says c =
    let m = machine_of c.loop-machine.machine c.loop-machine.budget in
    let n = machine_of c.take.new.machine c.take.new.budget in
    let is = subst (λ x. IsMove x c.in_ok-take.field-0 n) (sym (found c.args.source.now c.args.code.now m (step_of c.next_step-next.result.now) c.next_step-next.ensures.step)) c.in_ok-take.ensures.moves in
    λ r h. says_spent c.args.source.now c.args.code.now m n r c.in_ok-take.field-0 (c.loop-machine.invariant.1 r h) is c.in-RunsOut-2.is

pub returns-in-Asks-clause-says : goal.returns-in-Asks-clause-says
returns-in-Asks-clause-says c =
    let m = machine_of c.loop-machine.machine c.loop-machine.budget in
    let n = machine_of c.take.new.machine c.take.new.budget in
    let is = subst (λ x. IsMove x c.in_ok-take.field-0 n) (sym (found c.args.source.now c.args.code.now m (step_of c.next_step-next.result.now) c.next_step-next.ensures.step)) c.in_ok-take.ensures.moves in
    λ r h. says_ask c.args.source.now c.args.code.now m n r c.in_ok-take.field-0 c.in-Asks.function_index c.in-Asks.args c.in-Asks.result (c.loop-machine.invariant.1 r h) is c.in-Asks.is

pub returns-in-Asks-clause-less : goal.returns-in-Asks-clause-less
returns-in-Asks-clause-less c =
    let m = machine_of c.loop-machine.machine c.loop-machine.budget in
    let n = machine_of c.take.new.machine c.take.new.budget in
    let is = subst (λ x. IsMove x c.in_ok-take.field-0 n) (sym (found c.args.source.now c.args.code.now m (step_of c.next_step-next.result.now) c.next_step-next.ensures.step)) c.in_ok-take.ensures.moves in
    let asks = move_is c.args.source.now c.args.code.now m n c.in_ok-take.field-0 (outcome.Asks c.in-Asks.function_index c.in-Asks.args c.in-Asks.result) is c.in-Asks.is in
    let less : work_of c.args.code.now n < work_of c.args.code.now m = asks_lighter c.args.source.now c.args.code.now m n c.in-Asks.function_index c.in-Asks.args.items c.in-Asks.result asks in
    omega (arith, less, c.loop-machine.invariant.3)
