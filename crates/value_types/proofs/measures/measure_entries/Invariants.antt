use Rattle.std.proofs.Common.{◌≡◌, ◌-◌, ◌^◌, min, take}
use Rattle.value_types.specs.Datum.{members_of}
use Rattle.value_types.specs.Views.{datum_pairs}
use Rattle.value_types.specs.Depth.{members_depth}
use Rattle.value_types.specs.XdrSize.{members_xdr_size}
use Rattle.value_types.proofs.measures.measure_entries.Given as goal

abbrev pub invariant-loop-entry : goal.invariant-loop-entry
invariant-loop-entry l = record {
  xdr_size : l.size ≡ min (members_xdr_size (members_of (datum_pairs (take l.entry-index l.entries)))) (2 ^ 64 - 1);
  depth : l.deepest ≡ min (members_depth (members_of (datum_pairs (take l.entry-index l.entries)))) (2 ^ 64 - 1);
}
