use Rattle.std.proofs.Common.{◌≡◌, ◌+◌, ◌*◌, take}
use Rattle.auth_types.specs.Tree.{size, row_size}
use Rattle.auth_types.specs.Views.{tree_of}
use Rattle.auth_types.proofs.cloning.+clone.Given as goal

abbrev pub decreases-InvocationClone::clone : goal.decreases-InvocationClone::clone
decreases-InvocationClone::clone l = 2 * size (tree_of l.self.now)

abbrev pub decreases-InvocationsClone::clone : goal.decreases-InvocationsClone::clone
decreases-InvocationsClone::clone l = 2 * row_size l.self.now + 1

abbrev pub invariant-InvocationsClone::clone-loop-item : goal.invariant-InvocationsClone::clone-loop-item
invariant-InvocationsClone::clone-loop-item l = l.copies.items ≡ take l.item-index l.item-items
