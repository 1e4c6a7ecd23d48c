use Rattle.std.proofs.Common.{take}
use Rattle.stage_plan.specs.DeclaredKeys.{read_keys}
use Rattle.stage_codes.specs.Found.{Adds}
use Rattle.stage_codes.proofs.stage.add_cluster.Given as goal

abbrev pub invariant-loop-envelope : goal.invariant-loop-envelope
invariant-loop-envelope g l = Adds (g.G.Ground.map l.ground) l.fn.codes l.codes (read_keys (take l.envelope-index l.envelopes))
