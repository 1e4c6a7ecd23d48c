use Rattle.std.proofs.Common.{◌≡◌, ◌+◌, List, [], ◌∷◌, length, Some, refl, sym, ap, ◌∙◌, subst, arith}
use Rattle.std.specs.Prelude.{Vec}
use Rattle.std.specs.declared.alloc.Global.{Global}
use Rattle.wasm_spec.specs.declared.types.ValueType.{ValueType}
use Rattle.wasm_spec.specs.declared.values.Value.{Value}
use Rattle.wasm_spec.specs.declared.values.TrapKind.TheVariants.{CallDepth}
use Rattle.wasm_spec.specs.Meaning.{arguments, start_locals}
use Rattle.wasm_machine.specs.declared.machine.Outcome.TheVariants as outcome
use Rattle.wasm_machine.specs.Machine.{Frame}
use Rattle.wasm_machine.specs.MachineState.{machine_of, IsMove}
use Rattle.wasm_machine.proofs.CallLaws.{own_deep, own_enters, entered}
use Rattle.wasm_machine.proofs.calls.enter.Goals as goal

pub returns-then-count : goal.returns-then-count
returns-then-count c = λ b.
    let m = machine_of c.args.machine.now b in
    let e : arguments (length c.args.func_type.now.params) [] c.args.machine.now.operands ≡ Some (c.in_ok-locals.locals.items, c.take_arguments.new.self) =
    ap (λ (k : List ValueType). arguments (length k) [] c.args.machine.now.operands) (sym c.as_slice.ensures) ∙ c.in_ok-locals.ensures in
    let new = machine_of (record c.args.machine.now { operands = c.take_arguments.new.self }) b in
    subst (λ x. IsMove x (outcome.Traps CallDepth) new)
    (sym (own_deep c.args.function.now c.args.entry c.args.func_type.now m c.in_ok-locals.locals.items c.take_arguments.new.self e (omega arith))) (refl, refl)

pub returns : goal.returns
returns c = λ b.
    let m = machine_of c.args.machine.now b in
    let args = c.in_ok-locals.locals.items in
    let rest = c.take_arguments.new.self in
    let e : arguments (length c.args.func_type.now.params) [] c.args.machine.now.operands ≡ Some (args, rest) =
    ap (λ (k : List ValueType). arguments (length k) [] c.args.machine.now.operands) (sym c.as_slice.ensures) ∙ c.in_ok-locals.ensures in
    let locals : c.replace.new.dest.items ≡ start_locals c.args.function.now args = ap (λ (v : Vec Value Global). v.items) c.replace.ensures.after ∙ c.in_ok-add_locals.ensures in
    let caller : c.replace.result.items ≡ c.args.machine.now.locals.items = ap (λ (v : Vec Value Global). v.items) c.replace.ensures.value in
    let waiting = λ (l : List Value). let f : Frame = record { pc = c.args.machine.now.pc + 1; locals = l } in f ∷ c.args.machine.now.frames in
    let frames : c.push.new.self ≡ waiting c.args.machine.now.locals.items = c.in_ok-push.ensures.ok ∙ ap waiting caller in
    let new = machine_of (record { pc = c.args.entry; operands = rest; locals = c.replace.new.dest; frames = c.push.new.self; store = c.args.machine.now.store; left = c.args.machine.now.left }) b in
    subst (λ x. IsMove x outcome.Goes new)
    (sym (own_enters c.args.function.now c.args.entry c.args.func_type.now m args rest e (omega arith)))
    (entered c.args.entry rest c.replace.new.dest.items (start_locals c.args.function.now args) m.state c.push.new.self (waiting c.args.machine.now.locals.items) locals frames)
