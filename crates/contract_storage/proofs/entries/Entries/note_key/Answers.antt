use Rattle.std.proofs.Common.{Some, ◌∙◌, ap, subst}
use Rattle.contract_storage.specs.Slotted.{Slotted, stored_of}
use Rattle.contract_storage.specs.Stored.{with_keys}
use Rattle.contract_storage.specs.Touched.{touched_by, IsNotedIn}
use Rattle.contract_storage.proofs.Slotting.{noted_by, noted_key}
use Rattle.contract_storage.proofs.entries.Entries.note_key.Goals as goal

pub returns-clause-ok : goal.returns-clause-ok
returns-clause-ok g c =
    let v : Slotted = record { layer = c.self.inside.layer; enforces = c.self.inside.enforces; seen = g.W.Watch.seen c.self.inside.watch; n = c.self.inside.n; lives = c.self.inside.lives } in
    noted_key v c.note.new.self c.args.access c.args.spot.key.now c.if-self.false (c.in_ok-note.ensures.ok)
    ∙ ap (λ (s : Slotted). with_keys (stored_of s) (touched_by (stored_of s).declared c.args.access c.args.spot.key.now (stored_of s).touched.keys)) c.self.view_is

pub returns-clause-noted : goal.returns-clause-noted
returns-clause-noted g c =
    let v : Slotted = record { layer = c.self.inside.layer; enforces = c.self.inside.enforces; seen = g.W.Watch.seen c.self.inside.watch; n = c.self.inside.n; lives = c.self.inside.lives } in
    subst (λ (s : Slotted). IsNotedIn (stored_of s).declared c.args.spot.key.now (stored_of s).touched.keys (Some c.in_ok-note.field-0)) c.self.view_is
    (noted_by v c.args.spot.key.now c.in_ok-note.field-0 c.if-self.false c.in_ok-note.ensures.noted)
