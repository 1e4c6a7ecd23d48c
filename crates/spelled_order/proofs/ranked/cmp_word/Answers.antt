use Rattle.spelled_order.proofs.Numbers.{word_order}
use Rattle.spelled_order.proofs.ranked.cmp_word.Goals as goal

pub returns : goal.returns
returns c = rw c.cmp.ensures (word_order c.args.one c.args.other c.ranges.one.fits c.ranges.other.fits)
