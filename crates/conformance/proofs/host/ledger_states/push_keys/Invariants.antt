use Rattle.std.proofs.Common.{All}
use Rattle.ledger_types.specs.Key.{key_format}
use Rattle.conformance.proofs.host.ledger_states.push_keys.Given as goal

abbrev pub invariant-loop-bytes : goal.invariant-loop-bytes
invariant-loop-bytes l = All (λ key. key_format.fits key) l.keys.items
