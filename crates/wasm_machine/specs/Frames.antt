-- Waiting calls as contracts see them (own).
use Rattle.wasm_machine.specs.declared.frames.Waiting.{Waiting}
use Rattle.wasm_machine.specs.Machine.{Frame}

abbrev pub frame_of : Waiting → Frame
frame_of w = record { pc = w.pc; locals = w.locals.items }
