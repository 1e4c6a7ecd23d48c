use Rattle.std.proofs.Common.{◌≡◌, ◌≤◌, drop}
use Rattle.std.specs.Option.{option_map}
use Rattle.host_spec.specs.VecRows.{meanings, words_in}
use Rattle.collection_calls.specs.Within.{is_within}
use Rattle.collection_calls.proofs.SizeLaws.{fit_behind}
use Rattle.collection_calls.proofs.from_memory.are_within.Given as goal

abbrev pub invariant-loop-i : goal.invariant-loop-i
invariant-loop-i l = record {
  found : option_map is_within (meanings l.values (words_in l.count l.bytes)) ≡ option_map (fit_behind l.sum) (meanings l.values (drop l.i (words_in l.count l.bytes)));
  small : l.sum ≤ 33554432;
}
