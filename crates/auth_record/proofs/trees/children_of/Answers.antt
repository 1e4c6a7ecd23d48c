use Rattle.std.proofs.Common.{◌+◌, ap}
use Rattle.auth_record.proofs.Children.{children_more}
use Rattle.auth_record.proofs.trees.children_of.Goals as goal

pub loop-note-preserved : goal.loop-note-preserved
loop-note-preserved c =
    let same = c.loop-note.invariant.0 in (
      ap (λ k. k + 1) same,
      children_more c.args.notes.now c.loop-note.note-index c.note-item.result c.loop-note-test.true c.note-item.is c.in_ok-key.key.items c.loop-note.children.entries c.add.new.children.entries c.in_ok-key.ensures
          (rw same at c.in_ok-add.ensures) c.loop-note.invariant.1,
    )
