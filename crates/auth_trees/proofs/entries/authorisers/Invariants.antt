use Rattle.std.proofs.Common.{◌≡◌, map, take}
use Rattle.auth_trees.specs.Flat.{authoriser}
use Rattle.auth_trees.proofs.entries.authorisers.Given as goal

abbrev pub invariant-loop-entry : goal.invariant-loop-entry
invariant-loop-entry l = l.addresses.items ≡ map (authoriser l.source) (take l.entry-index l.entries)
