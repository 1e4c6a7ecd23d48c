use Rattle.std.specs.List.{list_any}
use Rattle.std.proofs.Common.{◌≡◌, false, take}
use Rattle.ledger_spec.specs.Seen.{seen}
use Rattle.call_spec.specs.Invoked.{is_archived}
use Rattle.tx_steps.proofs.reading.has_archived.Given as goal

abbrev pub invariant-loop-key : goal.invariant-loop-key
invariant-loop-key g l = list_any (λ key. is_archived (seen l.n (g.G.Ground.map l.ground) key)) (take l.key-index l.keys) ≡ false
