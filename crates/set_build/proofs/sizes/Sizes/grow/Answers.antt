use Rattle.std.proofs.Common.{◌≡◌, ℕ, ◌+◌, get_or, set, true, false, sym, subst}
use Rattle.std.proofs.lemmas.List.{get_or_read}
use Rattle.std.specs.BTreeSet.{contains}
use Rattle.set_build.specs.Known.{size_cmp}
use Rattle.set_build.proofs.Ranked.{Ranks, Puts, ranks_grow}
use Rattle.set_build.proofs.sizes.Sizes.grow.Goals as goal

pub returns-clause-ranked : goal.returns-clause-ranked
returns-clause-ranked c =
    let count : c.index-count.result.now ≡ get_or c.args.self.now.counts.items c.args.number 0 = get_or_read c.args.self.now.counts.items c.args.number c.index-count.result.now c.requires.within c.index-count.ensures 0 in
    subst (λ (n : ℕ). Ranks (set c.args.self.now.counts.items c.args.number (n + 1)) (contains size_cmp c.insert.new.self)) (sym count)
    (ranks_grow c.args.self.now.counts.items c.args.number (contains size_cmp c.args.self.now.by_size) (contains size_cmp c.remove.new.self) (contains size_cmp c.insert.new.self)
    c.requires.within c.requires.ranked
    (subst (λ (n : ℕ). Puts (n, c.args.number) false (contains size_cmp c.args.self.now.by_size) (contains size_cmp c.remove.new.self)) count c.remove.ensures.updates.0)
    (subst (λ (n : ℕ). Puts (n + 1, c.args.number) true (contains size_cmp c.remove.new.self) (contains size_cmp c.insert.new.self)) count c.in_ok-insert.ensures.updates.0))
