use Rattle.std.proofs.Common.{◌≡◌, ◌∷◌, length, take}
use Rattle.auth_notes.proofs.keys.account_key.Given as goal

abbrev pub invariant-loop-byte : goal.invariant-loop-byte
invariant-loop-byte l = l.key.items ≡ length l.byte-items ∷ take l.byte-index l.byte-items
