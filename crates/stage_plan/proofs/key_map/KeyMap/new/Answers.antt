use Rattle.std.proofs.Common.{◌∙◌, ap}
use Rattle.stage_plan.specs.KeyMaps.{map_of}
use Rattle.stage_plan.proofs.KeyMaps.{no_entries}
use Rattle.stage_plan.proofs.key_map.KeyMap.new.Goals as goal

pub returns : goal.returns
returns g c = ap (map_of {X = g.row.X.Denot}) c.new.ensures.empty ∙ no_entries {X = g.row.X.Denot}
