use Rattle.std.proofs.Common.{◌≡◌, length, drop}
use Rattle.value_types.specs.Views.{datums}
use Rattle.host_spec.specs.VecRows.{meanings, words_in}
use Rattle.host_frame.specs.Made.{AreMade}
use Rattle.collection_calls.proofs.WordLaws.{meant_after}
use Rattle.collection_calls.proofs.from_memory.values_in.Given as goal

abbrev pub invariant-loop-i : goal.invariant-loop-i
invariant-loop-i l = record {
  found : meanings l.values (words_in l.count l.bytes) ≡ meant_after (datums l.made.items) l.values (drop l.i (words_in l.count l.bytes));
  made : AreMade (datums l.made.items);
  count : length l.made.items ≡ l.i;
}
