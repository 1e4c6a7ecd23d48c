use Rattle.std.proofs.Common.{◌≡◌, ◌+◌, ◌*◌, length, take}
use Rattle.host_spec.specs.LinearMemory.{overwritten}
use Rattle.host_spec.specs.VecRows.{words_bytes}
use Rattle.collection_calls.proofs.to_memory.write_words.Given as goal

abbrev pub invariant-loop-word : goal.invariant-loop-word
invariant-loop-word l = record {
  at : l.at ≡ l.to + 8 * l.word-index;
  written : l.memory ≡ overwritten l.initial.memory l.to (words_bytes (take l.word-index l.words));
  len : length l.memory ≡ length l.initial.memory;
}
