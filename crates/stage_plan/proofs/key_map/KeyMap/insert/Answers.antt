use Rattle.std.proofs.Common.{◌∙◌, ap, sym, subst}
use Rattle.std.specs.FinMap.{insert}
use Rattle.ledger_spec.specs.LedgerMap.{key_bytes}
use Rattle.stage_plan.specs.KeyMaps.{ByKey, map_of, AreKeyed}
use Rattle.stage_plan.proofs.KeyMaps.{inserted, inserted_map}
use Rattle.stage_plan.proofs.key_map.KeyMap.insert.Goals as goal

pub invariant_of-self-2 : goal.invariant_of-self-2
invariant_of-self-2 g c =
    subst (AreKeyed {X = g.row.X.Denot}) (sym c.in_ok-_old.ensures.entries) (inserted {X = g.row.X.Denot} c.args.key c.args.value c.self.inside.map.entries c.self.invariant c.requires)

pub returns-clause-ok : goal.returns-clause-ok
returns-clause-ok g c =
    ap (map_of {X = g.row.X.Denot}) c.in_ok-_old.ensures.entries ∙ sym (inserted_map {X = g.row.X.Denot} c.args.key c.args.value c.self.inside.map.entries c.self.invariant c.requires)
    ∙ ap (λ (m : ByKey g.row.X.Denot). insert m (key_bytes c.args.key.now) c.args.value) c.self.view_is
