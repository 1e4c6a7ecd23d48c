use Rattle.auth_notes.specs.Recording.{note_of, notes_of}
use Rattle.auth_record.proofs.Growing.{made_entry}
use Rattle.auth_record.proofs.trees.entry_of.Goals as goal

pub returns : goal.returns
returns c =
    made_entry (notes_of c.args.notes.now) (note_of c.args.root.now) c.in-Some.credentials _ c.in_ok-root_invocation.root_invocation c.in-Some.ensures c.in_ok-root_invocation.ensures
