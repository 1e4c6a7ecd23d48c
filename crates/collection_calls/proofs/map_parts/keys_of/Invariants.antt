use Rattle.std.proofs.Common.{◌≡◌, map, take}
use Rattle.value_types.specs.Views.{datums, datum_pairs}
use Rattle.collection_calls.proofs.map_parts.keys_of.Given as goal

abbrev pub invariant-loop-entry : goal.invariant-loop-entry
invariant-loop-entry l = datums l.made.items ≡ map (λ m. m.0) (datum_pairs (take l.entry-index l.entries))
