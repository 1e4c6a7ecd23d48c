use Rattle.std.proofs.Common.{◌≡◌, length}
use Rattle.std.specs.List.{AllByRecursion}
use Rattle.contract_storage.specs.Overlays.{back, IsWithin}
use Rattle.contract_storage.proofs.layer.put_all_back.Given as goal

abbrev pub invariant-loop-at : goal.invariant-loop-at
invariant-loop-at l =
    (back l.saved.entries l.states.items ≡ back l.initial.saved.entries l.initial.states.items)
    × AllByRecursion (IsWithin (length l.states.items)) l.saved.entries

abbrev pub decreases-loop-at : goal.decreases-loop-at
decreases-loop-at l = length l.saved.entries
