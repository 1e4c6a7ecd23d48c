use Rattle.std.proofs.Common.{◌≡◌, ◌-◌, ◌*◌, ◌^◌, List, false, length, refl, sym, ap, ◌∙◌, arith, replicate}
use Rattle.std.specs.Prelude.{slice_get, reverse}
use Rattle.wasm_spec.specs.declared.module.Import.{Import}
use Rattle.wasm_spec.specs.declared.values.Value.{Value}
use Rattle.wasm_spec.specs.Meaning.{is_import}
use Rattle.wasm_machine.specs.declared.machine.MachineState.{MachineState}
use Rattle.wasm_run.specs.declared.instance.CallPhase.{CallPhase}
use Rattle.wasm_run.specs.Suspended.{suspended}
use Rattle.wasm_run.specs.Able.{BeginsIn, Begins}
use Rattle.wasm_run.proofs.Starts.{beyond, own_known, some_is, begins_import, begins_own, ok_map}
use Rattle.wasm_run.proofs.placing.placed.Goals as goal

pub returns-then-is_import-clause-begins : goal.returns-then-is_import-clause-begins
returns-then-is_import-clause-begins c = λ p.
    begins_import (suspended c.args.source.now c.args.code.now p (record { pc = 2 * c.args.function; operands = c.from_vec.result; locals = c.new.result; frames = c.new-then-is_import.result; store = c.args.store; left = 2 ^ 64 - 1 })) c.args.function c.args.arity (sym c.is_import.ensures ∙ c.if-is_import.true)
    (record { pc_ = refl; operands_ = c.from_vec.ensures ∙ ap (λ (x : List Value). reverse x) c.in_ok-values.ensures; locals_ = c.new.ensures.items; frames_ = c.new-then-is_import.ensures; left_ = refl })

pub overflow_sub-index : goal.overflow_sub-index
overflow_sub-index c =
    let ib : is_import c.args.source.now c.args.function ≡ false = sym c.is_import.ensures ∙ c.if-is_import.false in
    let same = ap (λ (x : List Import). length x) c.as_slice.ensures in
    omega (arith, beyond c.args.source.now.imports c.args.function ib, same)

pub placed_in-requires-clause-function : goal.placed_in-requires-clause-function
placed_in-requires-clause-function c =
    let b = c.requires.begins in
    let known = own_known c.args.source.now c.args.code.now b.0 c.args.arity c.args.function c.args.store c.requires.compiled b.1 (sym c.is_import.ensures ∙ c.if-is_import.false) in
    some_is _ known.0 (ap (λ (x : List Import). slice_get c.args.source.now.functions (c.args.function - length x)) c.as_slice.ensures ∙ known.2)

pub placed_in-requires-clause-entry : goal.placed_in-requires-clause-entry
placed_in-requires-clause-entry c =
    let b = c.requires.begins in
    let known = own_known c.args.source.now c.args.code.now b.0 c.args.arity c.args.function c.args.store c.requires.compiled b.1 (sym c.is_import.ensures ∙ c.if-is_import.false) in
    some_is _ known.1 (ap (λ (x : List Import). slice_get c.args.code.now.entries (c.args.function - length x)) c.as_slice.ensures ∙ known.3)

pub returns-clause-begins : goal.returns-clause-begins
returns-clause-begins c =
    let source = c.args.source.now in
    let k = c.args.function - length c.as_slice.result.now in
    let values = c.in_ok-values.values.items in
    let ek = ap (λ (x : List Import). c.args.function - length x) c.as_slice.ensures in
    ok_map (λ (r : MachineState). (p : CallPhase) → BeginsIn (suspended source c.args.code.now p r) k values) (λ (r : MachineState). (p : CallPhase) → Begins (suspended source c.args.code.now p r) c.args.function (replicate c.args.arity 0)) c.placed_in.result c.placed_in.ensures.begins
    (λ r h p. begins_own (suspended source c.args.code.now p r) c.args.function c.args.arity k values (sym c.is_import.ensures ∙ c.if-is_import.false) ek c.in_ok-values.ensures (h p))
