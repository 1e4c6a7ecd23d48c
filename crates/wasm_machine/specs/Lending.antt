-- The store after its lent memory was written to (own).
use Rattle.std.specs.Prelude.{ℕ, List, length}
use Rattle.std.specs.List.{refill}
use Rattle.std.specs.Borrow.{Lends, MutBor, Fml, Array, u8}
use Rattle.wasm_spec.specs.Stores.{Store, with_bytes}
use Rattle.wasm_machine.specs.contracts.store.Store.{the_row}

-- the store with these bytes in its memory, cut or filled up to the memory's length
abbrev pub rewritten : Store → List ℕ → Store
rewritten s bytes = with_bytes (refill (length s.memory.bytes) s.memory.bytes bytes) s

-- when the loan ends, the memory of s holds the final bytes of r
abbrev pub LendsMemory : MutBor Store → MutBor (List ℕ) → Fml
LendsMemory s r = Lends the_row (Array u8 0) s r (rewritten s.now)
