use Rattle.std.proofs.Common.{◌≡◌, ◌-◌}
use Rattle.wasm_read.specs.Reading.{row_at}
use Rattle.wasm_read.proofs.RowSteps.{with_prefix}
use Rattle.wasm_read.proofs.binary.row.Given as goal

abbrev pub invariant-loop : goal.invariant-loop
invariant-loop g l = with_prefix l.items.items (row_at g.T.Binary.read_at (l.count - l.counter) l.input) ≡ row_at g.T.Binary.read_at l.count l.initial.input
