use Rattle.std.proofs.Common.{◌≡◌, take}
use Rattle.tx_steps.specs.Changed.{longer_in}
use Rattle.tx_steps.proofs.changes.extensions_at.Given as goal

abbrev pub invariant-loop-key : goal.invariant-loop-key
invariant-loop-key g l = l.extensions.items ≡ longer_in (g.G.Ground.map l.ground) l.changed.entries (take l.key-index l.keys)
