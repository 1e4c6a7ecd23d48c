use Rattle.std.proofs.Common.{◌≡◌, ◌++◌, take, filter}
use Rattle.declared_bytes.specs.Counted.{is_archived_at}
use Rattle.declared_bytes.proofs.archived.push_archived.Given as goal

abbrev pub invariant-loop-key : goal.invariant-loop-key
invariant-loop-key g l = l.archived.items ≡ l.fn.archived.items ++ filter (is_archived_at l.n (g.G.Ground.map l.ground)) (take l.key-index l.keys)
