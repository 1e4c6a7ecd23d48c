use Rattle.std.specs.List.{sum_by}
use Rattle.std.proofs.Common.{◌≡◌, ◌+◌, take}
use Rattle.xdr_core.specs.Sizes.{capped}
use Rattle.declared_bytes.specs.Counted.{changed_bytes}
use Rattle.declared_bytes.proofs.written.written_bytes.Given as goal

abbrev pub invariant-loop-change : goal.invariant-loop-change
invariant-loop-change g l = l.total ≡ capped (0 + sum_by (changed_bytes l.n (g.G.Ground.map l.ground)) (take l.change-index l.changes))
