use Rattle.std.proofs.Common.{◌≡◌, Bool, List, length}
use Rattle.std.specs.List.{AllByRecursion}
use Rattle.ledger_types.specs.declared.key.LedgerKey.{LedgerKey}
use Rattle.contract_storage.specs.Overlays.{back, AreMixed, IsState}
use Rattle.contract_storage.specs.declared.layer.Overlay.{Overlay}
use Rattle.contract_storage.proofs.layer.merge.Given as goal

abbrev pub invariant-loop-at : goal.invariant-loop-at
invariant-loop-at l =
    ((now : List Overlay) → back l.older.entries (back l.newest.entries now) ≡ back l.initial.older.entries (back l.initial.newest.entries now))
    × ((keys : List (LedgerKey × Bool)) → AllByRecursion (IsState keys) l.initial.older.entries → AllByRecursion (IsState keys) l.initial.newest.entries
    → AllByRecursion (IsState keys) l.older.entries × AllByRecursion (IsState keys) l.newest.entries)
    × ((now : List Overlay) → AreMixed now (back l.initial.newest.entries now) (back l.newest.entries now))

abbrev pub decreases-loop-at : goal.decreases-loop-at
decreases-loop-at l = length l.newest.entries
