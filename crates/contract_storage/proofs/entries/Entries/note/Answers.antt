use Rattle.std.proofs.Common.{◌∙◌, ap}
use Rattle.contract_storage.specs.Slotted.{Slotted, stored_of}
use Rattle.contract_storage.proofs.Slotting.{noted_all}
use Rattle.contract_storage.proofs.entries.Entries.note.Goals as goal

pub returns-clause-ok : goal.returns-clause-ok
returns-clause-ok g c =
    let v : Slotted = record { layer = c.self.inside.layer; enforces = c.self.inside.enforces; seen = g.W.Watch.seen c.self.inside.watch; n = c.self.inside.n; lives = c.self.inside.lives } in
    noted_all (stored_of c.args.self.now) v _ c.args.access c.args.spot.key.now _ (ap stored_of c.self.view_is ∙ c.in_ok-note_key.ensures.ok) c.accessed.ensures
