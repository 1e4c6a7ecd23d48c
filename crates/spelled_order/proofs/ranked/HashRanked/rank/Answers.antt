use Rattle.spelled_order.proofs.Parts.{hashes}
use Rattle.spelled_order.proofs.ranked.HashRanked.rank.Goals as goal

pub returns : goal.returns
returns c = hashes c.args.self.now c.args.other.now c.cmp_ids.result c.cmp_ids.ensures
