use Rattle.spelled_order.proofs.Numbers.{words_order}
use Rattle.spelled_order.proofs.ranked.cmp_words.Goals as goal

pub returns : goal.returns
returns c = rw c.cmp.ensures (words_order c.args.one c.args.other c.ranges.one.fits c.ranges.other.fits)
