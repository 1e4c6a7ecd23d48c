use Rattle.std.proofs.Common.{◌≡◌, ◌-◌, ◌^◌, min, take}
use Rattle.value_types.specs.Datum.{items_of}
use Rattle.value_types.specs.Views.{datums}
use Rattle.value_types.specs.Depth.{items_depth}
use Rattle.value_types.specs.XdrSize.{items_xdr_size}
use Rattle.value_types.proofs.measures.measure_items.Given as goal

abbrev pub invariant-loop-item : goal.invariant-loop-item
invariant-loop-item l = record {
  xdr_size : l.size ≡ min (items_xdr_size (items_of (datums (take l.item-index l.items)))) (2 ^ 64 - 1);
  depth : l.deepest ≡ min (items_depth (items_of (datums (take l.item-index l.items)))) (2 ^ 64 - 1);
}
