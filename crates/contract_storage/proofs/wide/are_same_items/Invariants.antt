use Rattle.std.proofs.Common.{◌≡◌, ◌*◌, take}
use Rattle.contract_storage.proofs.wide.are_same_items.Given as goal

abbrev pub invariant-loop-i : goal.invariant-loop-i
invariant-loop-i l = take (4 * l.i) l.one ≡ take (4 * l.i) l.other

abbrev pub invariant-loop-i-2 : goal.invariant-loop-i-2
invariant-loop-i-2 l = take l.i l.one ≡ take l.i l.other
