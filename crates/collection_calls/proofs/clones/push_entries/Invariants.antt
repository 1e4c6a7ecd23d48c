use Rattle.std.proofs.Common.{◌≡◌, ◌++◌, take}
use Rattle.value_types.specs.Views.{datum_pairs}
use Rattle.collection_calls.proofs.clones.push_entries.Given as goal

abbrev pub invariant-loop-entry : goal.invariant-loop-entry
invariant-loop-entry l = datum_pairs l.made.items ≡ datum_pairs l.fn.made.items ++ datum_pairs (take l.entry-index l.entries)
