use Rattle.std.proofs.Common.{List, take, ap, ◌∙◌}
use Rattle.auth_spec.specs.Pairs.{Pair}
use Rattle.auth_spec.specs.Demands.{Marked}
use Rattle.auth_trees.specs.Kept.{marked}
use Rattle.auth_trees.proofs.Keeping.{kept_less, pairs_less}
use Rattle.auth_trees.proofs.marks.Marks.restore.Goals as goal

pub invariant_of-self : goal.invariant_of-self
invariant_of-self c = kept_less c.self.inside.tables c.forget.new.self c.self.inside.source c.self.inside.records.items c.truncate.new.self.items _ _ c.args.to.pairs c.self.invariant c.forget.ensures c.truncate.ensures.items c.truncate.ensures.capacity

pub returns : goal.returns
returns c =
    let t = c.self.inside.tables in
    ap (λ rs. marked t c.self.inside.source rs) c.truncate.ensures.items
    ∙ ap (λ (ps : List Pair). record { entries = t.entries.now; source = c.self.inside.source; pairs = ps }) (pairs_less t.entries.now c.self.inside.records.items c.args.to.pairs)
    ∙ ap (λ (s : Marked). record s { pairs = take c.args.to.pairs s.pairs }) c.self.view_is
