use Rattle.std.proofs.Common.{take}
use Rattle.stage_codes.specs.Found.{Adds}
use Rattle.stage_codes.proofs.found.add_codes.Given as goal

abbrev pub invariant-loop-key : goal.invariant-loop-key
invariant-loop-key g l = Adds (g.G.Ground.map l.ground) l.fn.codes l.codes (take l.key-index l.keys)
