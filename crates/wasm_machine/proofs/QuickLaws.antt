-- Quick steps as moves of the machine.
use Rattle.std.proofs.Common.{◌≡◌, true, Some, sym, refl, ap, ◌∙◌, subst}
use Rattle.std.specs.Prelude.{slice_get}
use Rattle.wasm_spec.specs.declared.values.TrapKind.{TrapKind}
use Rattle.wasm_spec.specs.declared.module.Module.{Module}
use Rattle.wasm_code.specs.declared.step.Step.{Step}
use Rattle.wasm_code.specs.declared.step.Step.TheVariants as step
use Rattle.wasm_code.specs.declared.step.FlatCode.{FlatCode}
use Rattle.wasm_machine.specs.declared.machine.Outcome.TheVariants as outcome
use Rattle.wasm_machine.specs.declared.machine.Quick.{Quick}
use Rattle.wasm_machine.specs.declared.machine.Quick.TheVariants as quick
use Rattle.wasm_machine.specs.Machine.{Machine, executes, pays, moves, move}
use Rattle.wasm_machine.specs.MachineState.{IsMove}
use Rattle.wasm_machine.specs.Quick.{is_plain, is_quick, IsQuick}

-- an instruction that never branches, other than memory.grow, is quick
pub plain_is_quick : (i : Step) → is_plain i ≡ true → is_quick i ≡ true
plain_is_quick (step.Plain p) h = h
plain_is_quick step.Unreachable h = cc
plain_is_quick step.Pass h = refl
plain_is_quick (step.Unless to) h = refl
plain_is_quick (step.Skip to) h = cc
plain_is_quick (step.Jump id n) h = refl
plain_is_quick (step.JumpIf id n) h = refl
plain_is_quick (step.Table count) h = refl
plain_is_quick (step.Call f) h = cc
plain_is_quick (step.CallIndirect t) h = cc
plain_is_quick (step.Import f) h = cc
plain_is_quick step.End h = cc

paid : (source : Module) (flat : FlatCode) (m : Machine) (i : Step) → is_quick i ≡ true → moves source flat (Some i) m ≡ pays m (executes source flat i)
paid source flat m (step.Plain p) h = refl
paid source flat m step.Unreachable h = cc
paid source flat m step.Pass h = refl
paid source flat m (step.Unless to) h = refl
paid source flat m (step.Skip to) h = cc
paid source flat m (step.Jump id n) h = refl
paid source flat m (step.JumpIf id n) h = refl
paid source flat m (step.Table count) h = refl
paid source flat m (step.Call f) h = cc
paid source flat m (step.CallIndirect t) h = cc
paid source flat m (step.Import f) h = cc
paid source flat m step.End h = cc

-- the move of a step that was found
pub found : (source : Module) (flat : FlatCode) (m : Machine) (i : Step) → slice_get flat.steps m.pc ≡ Some i → move source flat m ≡ moves source flat (Some i) m
found source flat m i e = ap (λ o. moves source flat o m) e

-- the move of a quick step
pub quick_move : (source : Module) (flat : FlatCode) (m : Machine) (i : Step) → slice_get flat.steps m.pc ≡ Some i → is_quick i ≡ true → move source flat m ≡ pays m (executes source flat i)
quick_move source flat m i e h = found source flat m i e ∙ paid source flat m i h

pub quick_goes : (source : Module) (flat : FlatCode) (m n : Machine) (i : Step) (q : Quick) → slice_get flat.steps m.pc ≡ Some i → is_quick i ≡ true → IsQuick (pays m (executes source flat i)) q n → q ≡ quick.Goes → IsMove (move source flat m) outcome.Goes n
quick_goes source flat m n i q e h g is = subst (λ x. IsMove x outcome.Goes n) (sym (quick_move source flat m i e h)) (subst (λ x. IsQuick (pays m (executes source flat i)) x n) is g)

pub quick_traps : (source : Module) (flat : FlatCode) (m n : Machine) (i : Step) (q : Quick) (k : TrapKind) → slice_get flat.steps m.pc ≡ Some i → is_quick i ≡ true → IsQuick (pays m (executes source flat i)) q n → q ≡ quick.Traps k → IsMove (move source flat m) (outcome.Traps k) n
quick_traps source flat m n i q k e h g is = subst (λ x. IsMove x (outcome.Traps k) n) (sym (quick_move source flat m i e h)) (subst (λ x. IsQuick (pays m (executes source flat i)) x n) is g)

pub quick_spent : (source : Module) (flat : FlatCode) (m n : Machine) (i : Step) (q : Quick) → slice_get flat.steps m.pc ≡ Some i → is_quick i ≡ true → IsQuick (pays m (executes source flat i)) q n → q ≡ quick.RunsOut → IsMove (move source flat m) outcome.RunsOut n
quick_spent source flat m n i q e h g is = subst (λ x. IsMove x outcome.RunsOut n) (sym (quick_move source flat m i e h)) (subst (λ x. IsQuick (pays m (executes source flat i)) x n) is g)
