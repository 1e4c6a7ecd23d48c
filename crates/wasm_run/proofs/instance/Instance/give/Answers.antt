use Rattle.std.proofs.Common.{List, sym, subst}
use Rattle.wasm_spec.specs.declared.values.Value.{Value}
use Rattle.wasm_run.specs.declared.instance.CallPhase.TheVariants as phase
use Rattle.wasm_run.specs.Suspended.{suspended, standing, Goes}
use Rattle.wasm_run.proofs.Suspends.{able_at}
use Rattle.wasm_run.proofs.instance.Instance.give.Goals as goal

pub invariant_of-self : goal.invariant_of-self
invariant_of-self c =
    let i = suspended c.self.inside.source.now c.self.inside.code.now c.self.inside.phase c.self.inside.running in
    let able = able_at i (phase.Waiting c.in-Waiting.result_type) c.in-Waiting.is c.self.invariant in
    let bytes = i.store.memory.bytes in
    let on = able.1.0 in
    (on c.args.answer bytes, λ b. subst (λ (x : List Value). Goes i.source i.flat (standing (record i { phase = phase.Ready; operands = x }) b) (on c.args.answer bytes b)) (sym c.put_answer.ensures) (able.1.1 c.args.answer bytes b))
