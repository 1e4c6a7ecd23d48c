use Rattle.std.proofs.Common.{◌≡◌, take}
use Rattle.auth_record.specs.Children.{AreChildren}
use Rattle.auth_record.proofs.trees.children_of.Given as goal

abbrev pub invariant-loop-note : goal.invariant-loop-note
invariant-loop-note l = (l.index ≡ l.note-index) × AreChildren l.notes (take l.note-index l.notes) l.children.entries
