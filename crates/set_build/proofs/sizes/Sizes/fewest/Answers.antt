use Rattle.std.proofs.Common.{sym}
use Rattle.std.specs.BTreeSet.{contains}
use Rattle.set_build.specs.Known.{size_cmp}
use Rattle.set_build.proofs.Ranked.{ranks_least, ranks_some}
use Rattle.set_build.proofs.sizes.Sizes.fewest.Goals as goal

pub returns-in-Some : goal.returns-in-Some
returns-in-Some c =
    sym (ranks_least c.args.self.now.counts.items (contains size_cmp c.args.self.now.by_size) c.in-Some.least.now c.requires.ranked c.in-Some.ensures.member c.in-Some.ensures.least)

pub returns-in-None : goal.returns-in-None
returns-in-None c =
    let some = c.in-None.ensures.variant.1 (ranks_some c.args.self.now.counts.items c.args.self.now.by_size c.requires.ranked c.requires.some) in absurd cc
