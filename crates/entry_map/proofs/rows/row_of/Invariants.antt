use Rattle.std.proofs.Common.{◌-◌, ◌≤◌, suc, length}
use Rattle.ledger_types.specs.KeyOrder.{ranked_key}
use Rattle.entry_map.specs.Rows.{rows_of, before, after, AreBelow, AreAbove}
use Rattle.entry_map.proofs.rows.row_of.Given as goal

abbrev pub invariant-loop-low : goal.invariant-loop-low
invariant-loop-low l = record {
  within : l.high ≤ length l.rows - 1;
  ordered : l.low ≤ l.high;
  below : AreBelow (ranked_key l.key) (before (rows_of l.rows) l.low 0);
  above : AreAbove (ranked_key l.key) (after (rows_of l.rows) (suc l.high) 0);
}

abbrev pub decreases-loop-low : goal.decreases-loop-low
decreases-loop-low l = l.high - l.low
