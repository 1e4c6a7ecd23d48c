-- An operation stands for the step that it was made of.
use Rattle.std.proofs.Common.{◌≡◌, ℕ, List, [], ◌∷◌, ◌++◌, length, map, Some, None, refl, ap, ◌∙◌}
use Rattle.std.specs.Prelude.{slice_get, slice_set, option_map}
use Rattle.std.proofs.lemmas.List.{map-append, map-set, length-map}
use Rattle.std.proofs.lemmas.Option.{slice_get-map}
use Rattle.wasm_code.specs.declared.op.Op.{Op}
use Rattle.wasm_spec.specs.declared.instructions.Numeric.{Numeric}
use Rattle.wasm_spec.specs.declared.instructions.Numeric.TheVariants as numeric
use Rattle.wasm_spec.specs.declared.instructions.Plain.{Plain}
use Rattle.wasm_spec.specs.declared.instructions.Plain.TheVariants as plain
use Rattle.wasm_code.specs.declared.step.Step.{Step}
use Rattle.wasm_code.specs.declared.step.Step.TheVariants as step
use Rattle.wasm_code.specs.Ops.{step_of, op_of_numeric, op_of_plain, op_of}

numeric_step : (o : Numeric) → step_of (op_of_numeric o) ≡ step.Plain (plain.Numeric o)
numeric_step (numeric.Eqz t) = refl
numeric_step (numeric.Compare t o) = refl
numeric_step (numeric.Unary t o) = refl
numeric_step (numeric.Binary t o) = refl
numeric_step (numeric.Convert o) = refl

plain_step : (p : Plain) → step_of (op_of_plain p) ≡ step.Plain p
plain_step plain.Nop = refl
plain_step plain.Drop = refl
plain_step plain.Select = refl
plain_step (plain.LocalGet i) = refl
plain_step (plain.LocalSet i) = refl
plain_step (plain.LocalTee i) = refl
plain_step (plain.GlobalGet i) = refl
plain_step (plain.GlobalSet i) = refl
plain_step (plain.Load l a) = refl
plain_step (plain.Store s a) = refl
plain_step plain.MemorySize = refl
plain_step plain.MemoryGrow = refl
plain_step (plain.I32Const n) = refl
plain_step (plain.I64Const n) = refl
plain_step (plain.Numeric o) = numeric_step o

pub op_step : (s : Step) → step_of (op_of s) ≡ s
op_step (step.Plain p) = plain_step p
op_step step.Unreachable = refl
op_step step.Pass = refl
op_step (step.Unless to) = refl
op_step (step.Skip to) = refl
op_step (step.Jump id n) = refl
op_step (step.JumpIf id n) = refl
op_step (step.Table count) = refl
op_step (step.Call f) = refl
op_step (step.CallIndirect t) = refl
op_step (step.Import f) = refl
op_step step.End = refl

-- a list of operations as a list of steps

pub ops_count : (ops : List Op) → length (map step_of ops) ≡ length ops
ops_count ops = length-map ops step_of

pub op_pushed : (ops : List Op) (s : Step) → map step_of (ops ++ op_of s ∷ []) ≡ map step_of ops ++ s ∷ []
op_pushed ops s = map-append step_of ops (op_of s ∷ []) ∙ ap (λ x. map step_of ops ++ x ∷ []) (op_step s)

pub op_replaced : (ops : List Op) (i : ℕ) (s : Step) → map step_of (slice_set ops i (op_of s)) ≡ slice_set (map step_of ops) i s
op_replaced ops i s = map-set step_of ops i (op_of s) ∙ ap (slice_set (map step_of ops) i) (op_step s)

pub op_at : (ops : List Op) (i : ℕ) (o : Op) → slice_get ops i ≡ Some o → slice_get (map step_of ops) i ≡ Some (step_of o)
op_at ops i o e = slice_get-map step_of ops i ∙ ap (option_map step_of) e

pub op_past : (ops : List Op) (i : ℕ) → slice_get ops i ≡ None → slice_get (map step_of ops) i ≡ None
op_past ops i e = slice_get-map step_of ops i ∙ ap (option_map step_of) e
