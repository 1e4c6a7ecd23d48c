use Rattle.std.specs.List.{AllByRecursion}
use Rattle.std.proofs.Common.{◌≡◌, ◌++◌}
use Rattle.contract_storage.specs.Differences.{differences}
use Rattle.contract_storage.specs.Listed.{keys_in}
use Rattle.contract_storage.proofs.Tabling.{placed, IsIndexed}
use Rattle.contract_storage.proofs.changes.changes_of.Given as goal

abbrev pub invariant-loop-key : goal.invariant-loop-key
invariant-loop-key g l =
    AllByRecursion (IsIndexed (keys_in l.table-inside.slots.items)) l.key-iterator
    × (l.changes.items ++ differences (g.G.Ground.map l.table-inside.base.now) (placed l.states l.key-iterator)
    ≡ differences (g.G.Ground.map l.table-inside.base.now) (placed l.states l.table-inside.index.entries))
