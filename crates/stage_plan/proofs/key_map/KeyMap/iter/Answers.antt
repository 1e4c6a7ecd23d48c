use Rattle.std.proofs.Common.{◌∙◌, ap, sym, subst}
use Rattle.std.specs.FinMap.{entries}
use Rattle.std.specs.List.{AllByRecursion}
use Rattle.stage_plan.specs.KeyMaps.{ByKey, pairs_of, IsSpelled}
use Rattle.stage_plan.proofs.KeyMaps.{entries_of}
use Rattle.stage_plan.proofs.key_map.KeyMap.iter.Goals as goal

pub returns-clause-entries : goal.returns-clause-entries
returns-clause-entries g c =
    ap (pairs_of {X = g.row.X.Denot}) c.iter.ensures.rest ∙ sym (entries_of {X = g.row.X.Denot} c.self.inside.map.entries c.self.invariant.sorted)
    ∙ ap (λ (m : ByKey g.row.X.Denot). entries m) c.self.view_is

pub returns-clause-spelled : goal.returns-clause-spelled
returns-clause-spelled g c = subst (AllByRecursion (IsSpelled {X = g.row.X.Denot})) (sym c.iter.ensures.rest) c.self.invariant.each
