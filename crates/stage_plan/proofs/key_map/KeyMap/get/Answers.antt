use Rattle.std.proofs.Common.{◌∙◌, ap}
use Rattle.std.specs.FinMap.{get}
use Rattle.ledger_spec.specs.LedgerMap.{key_bytes}
use Rattle.stage_plan.specs.KeyMaps.{ByKey}
use Rattle.stage_plan.proofs.KeyMaps.{found}
use Rattle.stage_plan.proofs.key_map.KeyMap.get.Goals as goal

pub returns : goal.returns
returns g c =
    c.copied.ensures ∙ c.get.ensures.value ∙ found {X = g.row.X.Denot} c.args.key c.self.inside.map.entries c.self.invariant.sorted c.requires
    ∙ ap (λ (m : ByKey g.row.X.Denot). get m (key_bytes c.args.key.now)) c.self.view_is
