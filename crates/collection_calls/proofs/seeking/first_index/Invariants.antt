use Rattle.std.proofs.Common.{◌≡◌, drop}
use Rattle.value_types.specs.Views.{datum, datums}
use Rattle.host_spec.specs.VecRows.{first_index_of}
use Rattle.collection_calls.proofs.SeekLaws.{counted_from}
use Rattle.collection_calls.proofs.seeking.first_index.Given as goal

abbrev pub invariant-loop-i : goal.invariant-loop-i
invariant-loop-i l = first_index_of (datum l.value) (datums l.items) ≡ counted_from l.i (first_index_of (datum l.value) (datums (drop l.i l.items)))
