use Rattle.std.proofs.Common.{◌≡◌, ◌||◌, List, ℕ, take}
use Rattle.ledger_parts.specs.Shown.{is_read}
use Rattle.ledger_parts.proofs.key_set.KeySet.add_all.Given as goal

abbrev pub invariant-loop-key : goal.invariant-loop-key
invariant-loop-key l = (bytes : List ℕ) → is_read l.self bytes ≡ is_read l.initial.self bytes || is_read (take l.key-index l.keys) bytes
