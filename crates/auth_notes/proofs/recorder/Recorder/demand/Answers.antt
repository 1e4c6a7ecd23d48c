use Rattle.std.proofs.Common.{sym}
use Rattle.value_types.specs.declared.address.ScAddress.TheVariants.{Account}
use Rattle.auth_notes.specs.Recording.{note_of, notes_of}
use Rattle.auth_notes.proofs.Finding.{trees_more, note_address}
use Rattle.auth_notes.proofs.recorder.Recorder.demand.Goals as goal

pub grow-requires-clause-address : goal.grow-requires-clause-address
grow-requires-clause-address c =
    let made = rw c.in-Ok-Some.field-0-is at c.in-Ok-Some.ensures in
    note_address (notes_of c.self.inside.forest.notes.items) c.args.path.now (Account c.in-Some-account_of.account) c.args.function.now (note_of c.in-Ok-Some.note) (sym made)

pub grow-requires-clause-trees : goal.grow-requires-clause-trees
grow-requires-clause-trees c =
    let made = rw c.in-Ok-Some.field-0-is at c.in-Ok-Some.ensures in
    trees_more (notes_of c.self.inside.forest.notes.items) c.self.inside.forest.trees c.args.path.now (Account c.in-Some-account_of.account) c.args.function.now (note_of c.in-Ok-Some.note) c.self.invariant.made (sym made)
