use Rattle.std.proofs.Common.{◌≡◌, All}
use Rattle.stage_runs.specs.Maps.{LedgerMap}
use Rattle.stage_runs.specs.Runs.{change_all}
use Rattle.ledger_apply.specs.Done.{CanChange}
use Rattle.spec_apply.specs.Moved.{AreMoved}
use Rattle.spec_apply.proofs.pass.change_all.Given as goal

abbrev pub invariant-loop-made : goal.invariant-loop-made
invariant-loop-made l = record {
  entries : l.entries ≡ change_all l.initial.entries l.yielded;
  moved : (opening : LedgerMap) → AreMoved opening l.initial.entries l.initial.moved → AreMoved opening l.entries l.moved;
  left : All CanChange l.made-iterator.rest.items;
}
