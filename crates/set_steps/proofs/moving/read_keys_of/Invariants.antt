use Rattle.std.proofs.Common.{◌≡◌, List, ℕ, take}
use Rattle.ledger_parts.specs.Shown.{is_read}
use Rattle.stage_plan.specs.DeclaredKeys.{read_keys}
use Rattle.set_steps.proofs.moving.read_keys_of.Given as goal

abbrev pub invariant-loop-envelope : goal.invariant-loop-envelope
invariant-loop-envelope l = (bytes : List ℕ) → is_read l.keys bytes ≡ is_read (read_keys (take l.envelope-index l.envelopes)) bytes
