use Rattle.std.proofs.Common.{◌≡◌, ℕ, List, length, rules, true, sym, subst}
use Rattle.std.specs.BTreeSet.{contains}
use Rattle.set_build.specs.Known.{size_cmp}
use Rattle.set_build.proofs.Ranked.{Ranks, Puts, ranks_push}
use Rattle.set_build.proofs.sizes.Sizes.push.Goals as goal

pub returns-clause-ranked : goal.returns-clause-ranked
returns-clause-ranked c =
    let count : c.len.result ≡ length c.args.self.now.counts.items = search rules in
    subst (λ (ns : List ℕ). Ranks ns (contains size_cmp c.insert.new.self)) (sym c.in_ok-push.ensures.items)
    (ranks_push c.args.self.now.counts.items (contains size_cmp c.args.self.now.by_size) (contains size_cmp c.insert.new.self) c.requires.ranked
    (subst (λ (n : ℕ). Puts (1, n) true (contains size_cmp c.args.self.now.by_size) (contains size_cmp c.insert.new.self)) count c.in_ok-insert.ensures.updates.0))
