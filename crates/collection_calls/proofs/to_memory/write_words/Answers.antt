use Rattle.std.proofs.Common.{refl, ◌∙◌, arith}
use Rattle.collection_calls.proofs.MemoryLaws.{written_next}
use Rattle.collection_calls.proofs.to_memory.write_words.Goals as goal

pub loop-word-preserved : goal.loop-word-preserved
loop-word-preserved c =
    let i = c.loop-word.invariant in record {
      at = omega (arith, i.at);
      written = c.write_word.ensures ∙ written_next c.args.memory.now c.loop-word.memory c.args.to c.loop-word.at c.loop-word.word-index _ c.args.words.now i.at refl c.loop-word-test.true c.requires i.written;
      len = omega (arith, i.len, c.write_word.auto.memory);
    }
