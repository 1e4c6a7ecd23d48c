-- Steps in one flat enumeration, as the machine runs them (own).
use Rattle.wasm_spec.specs.declared.instructions.Numeric.{Numeric}
use Rattle.wasm_spec.specs.declared.instructions.Numeric.TheVariants as numeric
use Rattle.wasm_spec.specs.declared.instructions.Plain.{Plain}
use Rattle.wasm_spec.specs.declared.instructions.Plain.TheVariants as plain
use Rattle.wasm_code.specs.declared.step.Step.{Step}
use Rattle.wasm_code.specs.declared.step.Step.TheVariants as step
use Rattle.wasm_code.specs.declared.op.Op.{Op}
use Rattle.wasm_code.specs.declared.op.Op.TheVariants as op

-- the step that an operation stands for
abbrev pub step_of : Op → Step
step_of op.Nop = step.Plain plain.Nop
step_of op.Drop = step.Plain plain.Drop
step_of op.Select = step.Plain plain.Select
step_of (op.LocalGet i) = step.Plain (plain.LocalGet i)
step_of (op.LocalSet i) = step.Plain (plain.LocalSet i)
step_of (op.LocalTee i) = step.Plain (plain.LocalTee i)
step_of (op.GlobalGet i) = step.Plain (plain.GlobalGet i)
step_of (op.GlobalSet i) = step.Plain (plain.GlobalSet i)
step_of (op.Load l a) = step.Plain (plain.Load l a)
step_of (op.Store s a) = step.Plain (plain.Store s a)
step_of op.MemorySize = step.Plain plain.MemorySize
step_of op.MemoryGrow = step.Plain plain.MemoryGrow
step_of (op.I32Const n) = step.Plain (plain.I32Const n)
step_of (op.I64Const n) = step.Plain (plain.I64Const n)
step_of (op.Test t) = step.Plain (plain.Numeric (numeric.Eqz t))
step_of (op.Compare t o) = step.Plain (plain.Numeric (numeric.Compare t o))
step_of (op.Unary t o) = step.Plain (plain.Numeric (numeric.Unary t o))
step_of (op.Binary t o) = step.Plain (plain.Numeric (numeric.Binary t o))
step_of (op.Convert o) = step.Plain (plain.Numeric (numeric.Convert o))
step_of op.Unreachable = step.Unreachable
step_of op.Pass = step.Pass
step_of (op.Unless to) = step.Unless to
step_of (op.Skip to) = step.Skip to
step_of (op.Jump id n) = step.Jump id n
step_of (op.JumpIf id n) = step.JumpIf id n
step_of (op.Table count) = step.Table count
step_of (op.Call f) = step.Call f
step_of (op.CallIndirect t) = step.CallIndirect t
step_of (op.Import f) = step.Import f
step_of op.End = step.End

-- the instruction that an operation stands for, or memory.grow for one that stands for another step
abbrev pub plain_of : Op → Plain
plain_of op.Nop = plain.Nop
plain_of op.Drop = plain.Drop
plain_of op.Select = plain.Select
plain_of (op.LocalGet i) = plain.LocalGet i
plain_of (op.LocalSet i) = plain.LocalSet i
plain_of (op.LocalTee i) = plain.LocalTee i
plain_of (op.GlobalGet i) = plain.GlobalGet i
plain_of (op.GlobalSet i) = plain.GlobalSet i
plain_of (op.Load l a) = plain.Load l a
plain_of (op.Store s a) = plain.Store s a
plain_of op.MemorySize = plain.MemorySize
plain_of op.MemoryGrow = plain.MemoryGrow
plain_of (op.I32Const n) = plain.I32Const n
plain_of (op.I64Const n) = plain.I64Const n
plain_of (op.Test t) = plain.Numeric (numeric.Eqz t)
plain_of (op.Compare t o) = plain.Numeric (numeric.Compare t o)
plain_of (op.Unary t o) = plain.Numeric (numeric.Unary t o)
plain_of (op.Binary t o) = plain.Numeric (numeric.Binary t o)
plain_of (op.Convert o) = plain.Numeric (numeric.Convert o)
plain_of op.Unreachable = plain.MemoryGrow
plain_of op.Pass = plain.MemoryGrow
plain_of (op.Unless to) = plain.MemoryGrow
plain_of (op.Skip to) = plain.MemoryGrow
plain_of (op.Jump id n) = plain.MemoryGrow
plain_of (op.JumpIf id n) = plain.MemoryGrow
plain_of (op.Table count) = plain.MemoryGrow
plain_of (op.Call f) = plain.MemoryGrow
plain_of (op.CallIndirect t) = plain.MemoryGrow
plain_of (op.Import f) = plain.MemoryGrow
plain_of op.End = plain.MemoryGrow

-- the operation that stands for a numeric instruction
abbrev pub op_of_numeric : Numeric → Op
op_of_numeric (numeric.Eqz t) = op.Test t
op_of_numeric (numeric.Compare t o) = op.Compare t o
op_of_numeric (numeric.Unary t o) = op.Unary t o
op_of_numeric (numeric.Binary t o) = op.Binary t o
op_of_numeric (numeric.Convert o) = op.Convert o

-- the operation that stands for an instruction that never branches
abbrev pub op_of_plain : Plain → Op
op_of_plain plain.Nop = op.Nop
op_of_plain plain.Drop = op.Drop
op_of_plain plain.Select = op.Select
op_of_plain (plain.LocalGet i) = op.LocalGet i
op_of_plain (plain.LocalSet i) = op.LocalSet i
op_of_plain (plain.LocalTee i) = op.LocalTee i
op_of_plain (plain.GlobalGet i) = op.GlobalGet i
op_of_plain (plain.GlobalSet i) = op.GlobalSet i
op_of_plain (plain.Load l a) = op.Load l a
op_of_plain (plain.Store s a) = op.Store s a
op_of_plain plain.MemorySize = op.MemorySize
op_of_plain plain.MemoryGrow = op.MemoryGrow
op_of_plain (plain.I32Const n) = op.I32Const n
op_of_plain (plain.I64Const n) = op.I64Const n
op_of_plain (plain.Numeric o) = op_of_numeric o

-- the operation that stands for a step
abbrev pub op_of : Step → Op
op_of (step.Plain p) = op_of_plain p
op_of step.Unreachable = op.Unreachable
op_of step.Pass = op.Pass
op_of (step.Unless to) = op.Unless to
op_of (step.Skip to) = op.Skip to
op_of (step.Jump id n) = op.Jump id n
op_of (step.JumpIf id n) = op.JumpIf id n
op_of (step.Table count) = op.Table count
op_of (step.Call f) = op.Call f
op_of (step.CallIndirect t) = op.CallIndirect t
op_of (step.Import f) = op.Import f
op_of step.End = op.End
