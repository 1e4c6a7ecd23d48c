use Rattle.std.proofs.Common.{◌≡◌, ℕ, List, ◌++◌, length, map, drop, refl, sym, ap, ◌∙◌, subst}
use Rattle.std.specs.Vec.{with_items}
use Rattle.std.proofs.lemmas.List.{with_items_is}
use Rattle.wasm_spec.specs.declared.values.Value.{Value}
use Rattle.wasm_spec.specs.declared.values.Value.TheVariants as value
use Rattle.wasm_spec.specs.Meaning.{is_import, meaning}
use Rattle.wasm_run.specs.declared.instance.CallPhase.TheVariants as phase
use Rattle.wasm_run.specs.Suspended.{Suspended, suspended, Goes, standing}
use Rattle.wasm_run.proofs.Suspends.{starts_import, starts_own, able_at}
use Rattle.wasm_run.proofs.instance.Instance.start.Goals as goal

pub invariant_of-self : goal.invariant_of-self
invariant_of-self c =
    let i = suspended c.self.inside.source.now c.self.inside.code.now c.self.inside.phase c.self.inside.running in
    let f = c.in-Fresh.function in
    let n = length c.args.args.now in
    let was : i.phase ≡ phase.Fresh c.requires.0 n = ap (λ (s : Suspended). s.phase) c.self.view_is ∙ c.requires.1 in
    let is : phase.Fresh f c.in-Fresh.field-1 ≡ phase.Fresh c.requires.0 n = sym c.in-Fresh.is ∙ was in
    let same : c.requires.0 ≡ f = cc in
    let able = able_at i (phase.Fresh f n) (was ∙ ap (λ (x : ℕ). phase.Fresh x n) same) c.self.invariant in
    (meaning i.source f c.args.args.now i.store, starts_import i f c.args.args.now c.replace_all.new.self able (sym c.is_import.ensures ∙ c.if-is_import.true) c.replace_all.ensures)

pub returns-then-is_import-clause-does : goal.returns-then-is_import-clause-does
returns-then-is_import-clause-does c = λ f e.
    let i = suspended c.self.inside.source.now c.self.inside.code.now c.self.inside.phase c.self.inside.running in
    let n = length c.args.args.now in
    let was : i.phase ≡ phase.Fresh f n = ap (λ (s : Suspended). s.phase) c.self.view_is ∙ e in
    let is : phase.Fresh c.in-Fresh.function c.in-Fresh.field-1 ≡ phase.Fresh f n = sym c.in-Fresh.is ∙ was in
    let same : c.in-Fresh.function ≡ f = cc in
    let it = ap (λ (x : ℕ). is_import i.source x) (sym same) ∙ sym c.is_import.ensures ∙ c.if-is_import.true in
    let able = able_at i (phase.Fresh f n) was c.self.invariant in
    let ops = c.replace_all.new.self in
    (refl, λ b. subst (λ (s : Suspended). Goes i.source i.flat (standing (record i { phase = phase.Ready; operands = ops }) b) (meaning s.source f c.args.args.now s.store b)) c.self.view_is (starts_import i f c.args.args.now ops able it c.replace_all.ensures b))

pub invariant_of-self-2 : goal.invariant_of-self-2
invariant_of-self-2 c =
    let i = suspended c.self.inside.source.now c.self.inside.code.now c.self.inside.phase c.self.inside.running in
    let f = c.in-Fresh.function in
    let n = length c.args.args.now in
    let was : i.phase ≡ phase.Fresh c.requires.0 n = ap (λ (s : Suspended). s.phase) c.self.view_is ∙ c.requires.1 in
    let is : phase.Fresh f c.in-Fresh.field-1 ≡ phase.Fresh c.requires.0 n = sym c.in-Fresh.is ∙ was in
    let same : c.requires.0 ≡ f = cc in
    let able = able_at i (phase.Fresh f n) (was ∙ ap (λ (x : ℕ). phase.Fresh x n) same) c.self.invariant in
    let locals = c.self.inside.running.locals in
    let put = with_items_is locals c.put_numbers.new.values (c.put_numbers.auto.values ∙ c.deref_mut.ensures.len) ∙ c.put_numbers.ensures ∙ ap (λ (x : List Value). map value.I64 c.args.args.now ++ drop n x) c.deref_mut.ensures.value in
    (meaning i.source f c.args.args.now i.store, starts_own i f c.args.args.now (with_items locals c.put_numbers.new.values).items able (sym c.is_import.ensures ∙ c.if-is_import.false) put)

pub returns-clause-does : goal.returns-clause-does
returns-clause-does c = λ f e.
    let i = suspended c.self.inside.source.now c.self.inside.code.now c.self.inside.phase c.self.inside.running in
    let n = length c.args.args.now in
    let was : i.phase ≡ phase.Fresh f n = ap (λ (s : Suspended). s.phase) c.self.view_is ∙ e in
    let is : phase.Fresh c.in-Fresh.function c.in-Fresh.field-1 ≡ phase.Fresh f n = sym c.in-Fresh.is ∙ was in
    let same : c.in-Fresh.function ≡ f = cc in
    let ib = ap (λ (x : ℕ). is_import i.source x) (sym same) ∙ sym c.is_import.ensures ∙ c.if-is_import.false in
    let able = able_at i (phase.Fresh f n) was c.self.invariant in
    let locals = c.self.inside.running.locals in
    let now = (with_items locals c.put_numbers.new.values).items in
    let put = with_items_is locals c.put_numbers.new.values (c.put_numbers.auto.values ∙ c.deref_mut.ensures.len) ∙ c.put_numbers.ensures ∙ ap (λ (x : List Value). map value.I64 c.args.args.now ++ drop n x) c.deref_mut.ensures.value in
    (refl, λ b. subst (λ (s : Suspended). Goes i.source i.flat (standing (record i { phase = phase.Ready; locals = now }) b) (meaning s.source f c.args.args.now s.store b)) c.self.view_is (starts_own i f c.args.args.now now able ib put b))
