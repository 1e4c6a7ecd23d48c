use Rattle.std.proofs.Common.{◌≡◌, true, take}
use Rattle.spec_apply.specs.Moved.{are_still}
use Rattle.spec_apply.proofs.moved.are_still.Given as goal

abbrev pub invariant-loop-key : goal.invariant-loop-key
invariant-loop-key l = are_still l.moved (take l.key-index l.keys) ≡ true
