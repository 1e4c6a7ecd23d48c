use Rattle.std.proofs.Common.{◌-◌, ◌≤◌, length, take, drop}
use Rattle.ledger_types.specs.KeyOrder.{ranked_key}
use Rattle.entry_map.specs.Rows.{AreBelow, AreAbove}
use Rattle.entry_map.proofs.rows.index_in.Given as goal

abbrev pub invariant-loop-low : goal.invariant-loop-low
invariant-loop-low l = record {
  within : l.high ≤ length l.row;
  ordered : l.low ≤ l.high;
  below : AreBelow (ranked_key l.key) (take l.low l.row);
  above : AreAbove (ranked_key l.key) (drop l.high l.row);
}

abbrev pub decreases-loop-low : goal.decreases-loop-low
decreases-loop-low l = l.high - l.low
