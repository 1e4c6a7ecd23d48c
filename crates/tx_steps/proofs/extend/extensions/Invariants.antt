use Rattle.std.proofs.Common.{◌≡◌, take}
use Rattle.apply_spec.specs.Extending.{extensions_of}
use Rattle.tx_steps.proofs.extend.extensions.Given as goal

abbrev pub invariant-loop-key : goal.invariant-loop-key
invariant-loop-key g l = l.found.items ≡ extensions_of l.n (g.G.Ground.map l.ground) (take l.key-index l.keys) l.until
