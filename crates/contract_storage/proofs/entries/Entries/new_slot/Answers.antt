use Rattle.std.proofs.Common.{Ok, Err, sym, subst, ap, ◌∙◌}
use Rattle.contract_storage.specs.Places.{place_in}
use Rattle.contract_storage.specs.Slotted.{Slotted, IsSlotFor}
use Rattle.contract_storage.specs.declared.access.StoErr.TheVariants as err
use Rattle.contract_storage.proofs.Slotting.{added_slot, no_slot, unmade_slot}
use Rattle.contract_storage.proofs.entries.Entries.new_slot.Goals as goal

pub add-requires-clause-absent : goal.add-requires-clause-absent
add-requires-clause-absent g c = ap (λ (s : Slotted). place_in c.args.key.now s.layer.keys) c.self.view_is ∙ c.requires.absent

pub returns-then-self : goal.returns-then-self
returns-then-self g c = λ access.
    no_slot c.args.self.now access c.args.key.now (sym (ap (λ (s : Slotted). s.enforces) c.self.view_is) ∙ c.if-self.true) c.requires.absent

pub returns : goal.returns
returns g c = λ access.
    let v : Slotted = record { layer = c.self.inside.layer; enforces = c.self.inside.enforces; seen = g.W.Watch.seen c.self.inside.watch; n = c.self.inside.n; lives = c.self.inside.lives } in
    subst (λ (s : Slotted). IsSlotFor access c.args.key.now (Ok c.in-Ok.at) s (record v { layer = c.add.new.self })) c.self.view_is
    (added_slot v c.add.new.self access c.args.key.now c.in-Ok.at c.if-self.false (ap (λ (s : Slotted). place_in c.args.key.now s.layer.keys) c.self.view_is ∙ c.requires.absent) c.in-Ok.ensures.ok c.in-Ok.ensures.number)

pub returns-in_default : goal.returns-in_default
returns-in_default g c = λ access.
    let v : Slotted = record { layer = c.self.inside.layer; enforces = c.self.inside.enforces; seen = g.W.Watch.seen c.self.inside.watch; n = c.self.inside.n; lives = c.self.inside.lives } in
    subst (λ (s : Slotted). IsSlotFor access c.args.key.now (Err err.NoMemory) s (record v { layer = c.add.new.self })) c.self.view_is
    (unmade_slot v c.add.new.self access c.args.key.now c.if-self.false c.in_default.ensures.err)
