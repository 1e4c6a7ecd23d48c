use Rattle.std.proofs.Common.{◌≡◌, drop, map}
use Rattle.command_words.specs.Values.{are_names}
use Rattle.command_words.proofs.values.are_names.Given as goal

-- the names so far are not empty and stand once
abbrev pub invariant-loop-i : goal.invariant-loop-i
invariant-loop-i l = are_names (map (λ n. n.now) l.names) ≡ are_names (map (λ n. n.now) (drop l.i l.names))
