use Rattle.std.specs.List.{sum_by}
use Rattle.std.proofs.Common.{◌≡◌, ◌+◌, take}
use Rattle.xdr_core.specs.Sizes.{capped}
use Rattle.tx_steps.specs.Changed.{changed_bytes}
use Rattle.tx_steps.proofs.writing.all_changed_bytes.Given as goal

abbrev pub invariant-loop-change : goal.invariant-loop-change
invariant-loop-change g l = l.total ≡ capped (0 + sum_by (changed_bytes l.n (g.G.Ground.map l.ground)) (take l.change-index l.changes))
