use Rattle.std.proofs.Common.{◌≤◌, ap, arith}
use Rattle.auth_types.specs.Tree.{size, row_size}
use Rattle.auth_types.specs.Views.{tree_of, forest_of}
use Rattle.auth_types.proofs.Parts.{size_at}
use Rattle.auth_types.proofs.cloning.+clone.Goals as goal

pub InvocationsClone::clone-clone-requires : goal.InvocationsClone::clone-clone-requires
InvocationsClone::clone-clone-requires t c =
    let items = c.as_slice-item-items.result.now in
    let small : size (tree_of c.item-item.result) ≤ row_size (forest_of items) = rw c.item-item.is (size_at items c.loop-item.item-index _ c.loop-item-test.true) in
    (omega (arith, small, ap row_size c.as_slice-item-items.ensures, c.decreases), tt)
