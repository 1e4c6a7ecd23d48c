use Rattle.std.specs.List.{sum_by}
use Rattle.std.proofs.Common.{◌≡◌, ◌+◌, take}
use Rattle.xdr_core.specs.Sizes.{capped}
use Rattle.ledger_spec.specs.Seen.{seen}
use Rattle.call_spec.specs.Invoked.{live_bytes}
use Rattle.tx_steps.proofs.reading.add_live.Given as goal

abbrev pub invariant-loop-key : goal.invariant-loop-key
invariant-loop-key g l = l.total ≡ capped (l.before + sum_by (λ key. live_bytes (seen l.n (g.G.Ground.map l.ground) key)) (take l.key-index l.keys))
