-- Operations that stand for instructions that never branch.
use Rattle.std.proofs.Common.{◌≡◌, ◌≢◌, true, refl}
use Rattle.wasm_spec.specs.declared.instructions.Plain.TheVariants as plain
use Rattle.wasm_code.specs.declared.step.Step.TheVariants as step
use Rattle.wasm_code.specs.declared.op.Op.{Op}
use Rattle.wasm_code.specs.declared.op.Op.TheVariants as op
use Rattle.wasm_code.specs.Ops.{step_of, plain_of}
use Rattle.wasm_machine.specs.Quick.{is_plain}

pub plain_step : (o : Op) → is_plain (step_of o) ≡ true → step_of o ≡ step.Plain (plain_of o)
plain_step op.Nop h = refl
plain_step op.Drop h = refl
plain_step op.Select h = refl
plain_step (op.LocalGet i) h = refl
plain_step (op.LocalSet i) h = refl
plain_step (op.LocalTee i) h = refl
plain_step (op.GlobalGet i) h = refl
plain_step (op.GlobalSet i) h = refl
plain_step (op.Load l a) h = refl
plain_step (op.Store s a) h = refl
plain_step op.MemorySize h = refl
plain_step op.MemoryGrow h = cc
plain_step (op.I32Const n) h = refl
plain_step (op.I64Const n) h = refl
plain_step (op.Test t) h = refl
plain_step (op.Compare t o) h = refl
plain_step (op.Unary t o) h = refl
plain_step (op.Binary t o) h = refl
plain_step (op.Convert o) h = refl
plain_step op.Unreachable h = cc
plain_step op.Pass h = cc
plain_step (op.Unless to) h = cc
plain_step (op.Skip to) h = cc
plain_step (op.Jump id n) h = cc
plain_step (op.JumpIf id n) h = cc
plain_step (op.Table count) h = cc
plain_step (op.Call f) h = cc
plain_step (op.CallIndirect t) h = cc
plain_step (op.Import f) h = cc
plain_step op.End h = cc

pub plain_stays : (o : Op) → is_plain (step_of o) ≡ true → plain_of o ≢ plain.MemoryGrow
plain_stays op.Nop h = λ e. cc
plain_stays op.Drop h = λ e. cc
plain_stays op.Select h = λ e. cc
plain_stays (op.LocalGet i) h = λ e. cc
plain_stays (op.LocalSet i) h = λ e. cc
plain_stays (op.LocalTee i) h = λ e. cc
plain_stays (op.GlobalGet i) h = λ e. cc
plain_stays (op.GlobalSet i) h = λ e. cc
plain_stays (op.Load l a) h = λ e. cc
plain_stays (op.Store s a) h = λ e. cc
plain_stays op.MemorySize h = λ e. cc
plain_stays op.MemoryGrow h = λ e. cc
plain_stays (op.I32Const n) h = λ e. cc
plain_stays (op.I64Const n) h = λ e. cc
plain_stays (op.Test t) h = λ e. cc
plain_stays (op.Compare t o) h = λ e. cc
plain_stays (op.Unary t o) h = λ e. cc
plain_stays (op.Binary t o) h = λ e. cc
plain_stays (op.Convert o) h = λ e. cc
plain_stays op.Unreachable h = λ e. cc
plain_stays op.Pass h = λ e. cc
plain_stays (op.Unless to) h = λ e. cc
plain_stays (op.Skip to) h = λ e. cc
plain_stays (op.Jump id n) h = λ e. cc
plain_stays (op.JumpIf id n) h = λ e. cc
plain_stays (op.Table count) h = λ e. cc
plain_stays (op.Call f) h = λ e. cc
plain_stays (op.CallIndirect t) h = λ e. cc
plain_stays (op.Import f) h = λ e. cc
plain_stays op.End h = λ e. cc
