-- The instance after its lent memory was written to (own).
use Rattle.std.specs.Prelude.{ℕ, List, []}
use Rattle.std.specs.Borrow.{Lends, MutBor, Fml, Array, u8}
use mir.Syntax.{named}
use Rattle.wasm_machine.specs.Lending.{rewritten}
use Rattle.wasm_run.specs.Suspended.{Suspended}
use Rattle.wasm_run.specs.contracts.instance.Instance.{the_row}

-- the instance with these bytes in its memory
abbrev pub remembering : Suspended → List ℕ → Suspended
remembering i bytes = record i { store = rewritten i.store bytes }

-- when the loan ends, the memory of i holds the final bytes of r
abbrev pub LendsMemory : MutBor Suspended → MutBor (List ℕ) → Fml
LendsMemory i r = Lends (the_row (record { mir = named 1; lft = [] })) (Array u8 0) i r (remembering i.now)
