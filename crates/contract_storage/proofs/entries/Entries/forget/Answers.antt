use Rattle.std.proofs.Common.{◌≡◌, List, Option, Some, None, ap, sym, subst, rules, ◌∙◌}
use Rattle.contract_storage.specs.Listed.{WasNoted}
use Rattle.contract_storage.specs.Slotted.{Slotted, stored_of}
use Rattle.contract_storage.specs.Stored.{with_keys}
use Rattle.contract_storage.specs.Touched.{touched_by, IsNotedIn}
use Rattle.contract_storage.specs.declared.access.Access.{Access}
use Rattle.contract_storage.specs.declared.spot.Spot.{Spot}
use Rattle.contract_storage.specs.declared.touched.Noted.{Noted}
use Rattle.contract_storage.specs.declared.touched.Touch.{Touch}
use Rattle.contract_storage.specs.Places.{IsSpot}
use Rattle.contract_storage.proofs.Slotting.{none_noted, retouched, was_noted}
use Rattle.contract_storage.proofs.entries.Entries.forget.Goals as goal

-- the note in the terms of the fields
inside : (v now : Slotted) (access : Access) (spot : Spot) (was : Option Noted) (noted : Noted) (before : List Touch) → v ≡ now → was ≡ Some noted → IsSpot now.layer.keys spot
    → (stored_of now).touched.keys ≡ touched_by (stored_of now).declared access spot.key.now before → IsNotedIn (stored_of now).declared spot.key.now before was
    → WasNoted v.layer.keys spot.at noted before v.layer.touches
inside v now access spot was noted before view is place e n =
    subst (λ (x : Slotted). WasNoted x.layer.keys spot.at noted before x.layer.touches) (sym view)
    (was_noted now access spot noted before place e (subst (λ (o : Option Noted). IsNotedIn (stored_of now).declared spot.key.now before o) is n))

pub take_back-requires : goal.take_back-requires
take_back-requires g c =
    (c.requires.noted.1, inside _ c.args.self.now c.requires.noted.0 c.args.spot c.args.noted c.in-Some.noted c.requires.noted.1 c.self.view_is c.in-Some.is c.requires.spot c.requires.noted.2 c.requires.noted.3)

pub returns-in-Some : goal.returns-in-Some
returns-in-Some g c = λ access before e n.
    let v : Slotted = record { layer = c.self.inside.layer; enforces = c.self.inside.enforces; seen = g.W.Watch.seen c.self.inside.watch; n = c.self.inside.n; lives = c.self.inside.lives } in
    retouched v c.take_back.new.self before (c.take_back.ensures before (inside v c.args.self.now access c.args.spot c.args.noted c.in-Some.noted before c.self.view_is c.in-Some.is c.requires.spot e n))
    ∙ ap (λ (x : Slotted). with_keys (stored_of x) before) c.self.view_is

pub returns-in_default : goal.returns-in_default
returns-in_default g c = λ access before e n.
    let nothing : c.args.noted ≡ None = search rules in
    none_noted (stored_of c.args.self.now) access c.args.spot.key.now before e (subst (λ (o : Option Noted). IsNotedIn (stored_of c.args.self.now).declared c.args.spot.key.now before o) nothing n)
