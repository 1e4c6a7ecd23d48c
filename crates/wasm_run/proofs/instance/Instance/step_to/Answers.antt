use Rattle.std.proofs.Common.{List, length, drop, refl, sym, ap, ◌∙◌, subst, arith}
use Rattle.wasm_spec.specs.declared.values.Value.{Value}
use Rattle.wasm_spec.specs.Meaning.{NamesImport}
use Rattle.wasm_machine.specs.declared.run.Paused.{Paused}
use Rattle.wasm_machine.specs.declared.run.Paused.TheVariants as paused
use Rattle.wasm_machine.specs.MachineState.{machine_of}
use Rattle.wasm_machine.specs.Says.{Says}
use Rattle.wasm_run.specs.declared.instance.CallPhase.TheVariants as phase
use Rattle.wasm_run.specs.Suspended.{Suspended, suspended, standing, Does}
use Rattle.wasm_run.proofs.Suspends.{able_at, word_is, goes_on, tells_done, tells_trap, tells_spent, tells_ask, names_ask}
use Rattle.wasm_run.proofs.instance.Instance.step_to.Goals as goal

pub run-requires : goal.run-requires
run-requires c =
    let i = suspended c.self.inside.source.now c.self.inside.code.now c.self.inside.phase c.self.inside.running in
    let able = able_at i phase.Ready (ap (λ (s : Suspended). s.phase) c.self.view_is ∙ c.requires) c.self.invariant in
    (able.0 c.args.budget.now, (able.1 c.args.budget.now).0)

pub word-requires : goal.word-requires
word-requires c =
    let i = suspended c.self.inside.source.now c.self.inside.code.now c.self.inside.phase c.self.inside.running in
    let able = able_at i phase.Ready (ap (λ (s : Suspended). s.phase) c.self.view_is ∙ c.requires) c.self.invariant in
    let b = c.args.budget.now in
    let m = machine_of c.run.new.machine c.run.new.budget in
    let says = c.in_ok-result_value.ensures.says (able.0 b) (able.1 b).0 in
    word_is i.source i.flat (able.0 b) c.in-Done.result_value m (able.1 b).1 (subst (λ (p : Paused). Says i.source i.flat (able.0 b) p m) c.in-Done.is says)

pub invariant_of-self-in-HostCall : goal.invariant_of-self-in-HostCall
invariant_of-self-in-HostCall c =
    let i = suspended c.self.inside.source.now c.self.inside.code.now c.self.inside.phase c.self.inside.running in
    let able = able_at i phase.Ready (ap (λ (s : Suspended). s.phase) c.self.view_is ∙ c.requires) c.self.invariant in
    let b = c.args.budget.now in
    let after = c.run.new.budget in
    let t = c.in-HostCall.result_type in
    let pushed = c.in_ok-push-in-HostCall.ensures.ok in
    let asks = paused.HostCall c.in-HostCall.import c.in-HostCall.words t in
    let m = machine_of c.run.new.machine after in
    let says = subst (λ (p : Paused). Says i.source i.flat (able.0 b) p m) c.in-HostCall.is (c.in_ok-result_value.ensures.says (able.0 b) (able.1 b).0) in
    let j = record (suspended i.source i.flat (phase.Waiting t) c.run.new.machine) { operands = c.push.new.self } in
    let says' = subst (λ (x : List Value). Says i.source i.flat (able.0 b) asks (standing (record j { operands = x }) after)) (sym (ap (λ (x : List Value). drop 1 x) pushed)) says in
    (omega (arith, ap (λ (x : List Value). length x) pushed), goes_on j (able.0 b) c.in-HostCall.import c.in-HostCall.words t after (able.1 b).1 says')

pub returns-in-Done-clause-tells : goal.returns-in-Done-clause-tells
returns-in-Done-clause-tells c = λ go does.
    let i = suspended c.self.inside.source.now c.self.inside.code.now c.self.inside.phase c.self.inside.running in
    let b = c.args.budget.now in
    let m = machine_of c.run.new.machine c.run.new.budget in
    let goes = (subst (λ (s : Suspended). Does s go) (sym c.self.view_is) does).1 b in
    let says = subst (λ (p : Paused). Says i.source i.flat (go b) p m) c.in-Done.is (c.in_ok-result_value.ensures.says (go b) goes.0) in
    tells_done i.source i.flat (go b) c.in-Done.result_value c.word.result c.run.new.budget m (suspended i.source i.flat phase.Over c.run.new.machine) goes.1 says c.word.ensures refl

pub returns-in-Trap-clause-tells : goal.returns-in-Trap-clause-tells
returns-in-Trap-clause-tells c = λ go does.
    let i = suspended c.self.inside.source.now c.self.inside.code.now c.self.inside.phase c.self.inside.running in
    let b = c.args.budget.now in
    let m = machine_of c.run.new.machine c.run.new.budget in
    let goes = (subst (λ (s : Suspended). Does s go) (sym c.self.view_is) does).1 b in
    let says = subst (λ (p : Paused). Says i.source i.flat (go b) p m) c.in-Trap.is (c.in_ok-result_value.ensures.says (go b) goes.0) in
    tells_trap i.source i.flat (go b) c.in-Trap.kind c.run.new.budget m (suspended i.source i.flat phase.Over c.run.new.machine) says refl

pub returns-in-Spent-clause-tells : goal.returns-in-Spent-clause-tells
returns-in-Spent-clause-tells c = λ go does.
    let i = suspended c.self.inside.source.now c.self.inside.code.now c.self.inside.phase c.self.inside.running in
    let b = c.args.budget.now in
    let m = machine_of c.run.new.machine c.run.new.budget in
    let goes = (subst (λ (s : Suspended). Does s go) (sym c.self.view_is) does).1 b in
    let says = subst (λ (p : Paused). Says i.source i.flat (go b) p m) c.in-Spent.is (c.in_ok-result_value.ensures.says (go b) goes.0) in
    tells_spent i.source i.flat (go b) c.run.new.budget m (suspended i.source i.flat phase.Over c.run.new.machine) says refl

pub returns-in_ok-push-in-HostCall-clause-tells : goal.returns-in_ok-push-in-HostCall-clause-tells
returns-in_ok-push-in-HostCall-clause-tells c = λ go does.
    let i = suspended c.self.inside.source.now c.self.inside.code.now c.self.inside.phase c.self.inside.running in
    let b = c.args.budget.now in
    let after = c.run.new.budget in
    let t = c.in-HostCall.result_type in
    let asks = paused.HostCall c.in-HostCall.import c.in-HostCall.words t in
    let m = machine_of c.run.new.machine after in
    let goes = (subst (λ (s : Suspended). Does s go) (sym c.self.view_is) does).1 b in
    let says = subst (λ (p : Paused). Says i.source i.flat (go b) p m) c.in-HostCall.is (c.in_ok-result_value.ensures.says (go b) goes.0) in
    let j = record (suspended i.source i.flat (phase.Waiting t) c.run.new.machine) { operands = c.push.new.self } in
    let says' = subst (λ (x : List Value). Says i.source i.flat (go b) asks (standing (record j { operands = x }) after)) (sym (ap (λ (x : List Value). drop 1 x) c.in_ok-push-in-HostCall.ensures.ok)) says in
    tells_ask j (go b) c.in-HostCall.import c.in-HostCall.words c.from_vec-args.result t after refl c.from_vec-args.ensures goes.1 says'

pub returns-in_ok-push-in-HostCall-clause-names : goal.returns-in_ok-push-in-HostCall-clause-names
returns-in_ok-push-in-HostCall-clause-names c =
    let i = suspended c.self.inside.source.now c.self.inside.code.now c.self.inside.phase c.self.inside.running in
    let able = able_at i phase.Ready (ap (λ (s : Suspended). s.phase) c.self.view_is ∙ c.requires) c.self.invariant in
    let b = c.args.budget.now in
    let after = c.run.new.budget in
    let t = c.in-HostCall.result_type in
    let asks = paused.HostCall c.in-HostCall.import c.in-HostCall.words t in
    let m = machine_of c.run.new.machine after in
    let says = subst (λ (p : Paused). Says i.source i.flat (able.0 b) p m) c.in-HostCall.is (c.in_ok-result_value.ensures.says (able.0 b) (able.1 b).0) in
    let j = record (suspended i.source i.flat (phase.Waiting t) c.run.new.machine) { operands = c.push.new.self } in
    let says' = subst (λ (x : List Value). Says i.source i.flat (able.0 b) asks (standing (record j { operands = x }) after)) (sym (ap (λ (x : List Value). drop 1 x) c.in_ok-push-in-HostCall.ensures.ok)) says in
    let names = names_ask j (able.0 b) c.in-HostCall.import c.in-HostCall.words c.from_vec-args.result t after c.from_vec-args.ensures (able.1 b).1 says' in
    subst (λ (s : Suspended). NamesImport s.source c.in-HostCall.import c.from_vec-args.result) c.self.view_is names
