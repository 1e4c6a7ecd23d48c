use Rattle.std.proofs.Common.{arith}
use Rattle.spelled_order.proofs.Lengths.{short_lengths, short_same, long_first, long_second}
use Rattle.spelled_order.proofs.text.cmp_lengths.Goals as goal
use Rattle.spelled_order.proofs.text.cmp_lengths.Goals.{else-one-lt-WORDS-via-then-one-lt-WORDS+else-other-lt-WORDS, else-one-lt-WORDS-via-else-one-lt-WORDS}

pub returns-then-other-lt-WORDS-clause-against : goal.returns-then-other-lt-WORDS-clause-against
returns-then-other-lt-WORDS-clause-against c = short_lengths c.args.one c.args.other c.cmp_word.result (omega arith) (omega arith) c.cmp_word.ensures

pub returns-then-other-lt-WORDS-clause-same : goal.returns-then-other-lt-WORDS-clause-same
returns-then-other-lt-WORDS-clause-same c e = short_same c.args.one c.args.other c.cmp_word.result (omega arith) (omega arith) c.cmp_word.ensures e

pub returns-else-one-lt-WORDS-clause-against : goal.returns-else-one-lt-WORDS-clause-against
returns-else-one-lt-WORDS-clause-against c = rw c.cmp.ensures (elim c.else-one-lt-WORDS.branch [
  | else-one-lt-WORDS-via-then-one-lt-WORDS+else-other-lt-WORDS w ↦ long_second c.args.one c.args.other w.if-one-lt-WORDS.true w.if-other-lt-WORDS.false
  | else-one-lt-WORDS-via-else-one-lt-WORDS w ↦ long_first c.args.one c.args.other w.if-one-lt-WORDS.false
])
