use Rattle.std.proofs.Common.{◌≡◌, All}
use Rattle.stage_runs.specs.Maps.{LedgerMap}
use Rattle.stage_runs.specs.Runs.{put_all_in}
use Rattle.ledger_types.specs.Key.{key_format}
use Rattle.spec_apply.specs.Moved.{AreMoved}
use Rattle.spec_apply.proofs.pass.extend_all.Given as goal

abbrev pub invariant-loop-extension : goal.invariant-loop-extension
invariant-loop-extension l = record {
  entries : l.entries ≡ put_all_in l.initial.entries l.yielded;
  moved : (opening : LedgerMap) → AreMoved opening l.initial.entries l.initial.moved → AreMoved opening l.entries l.moved;
  left : All (λ e. key_format.fits e.key) l.extension-iterator.rest.items;
}
