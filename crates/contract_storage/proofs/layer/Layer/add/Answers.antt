use Rattle.std.proofs.Common.{List, [], ◌∷◌, ◌++◌, ap, ◌∙◌}
use Rattle.contract_storage.specs.Layered.{Layered, with_slots}
use Rattle.contract_storage.specs.Listed.{Listed}
use Rattle.contract_storage.specs.Overlays.{layered, saved_in}
use Rattle.contract_storage.specs.Places.{place_in}
use Rattle.contract_storage.specs.declared.layer.Overlay.{Overlay}
use Rattle.contract_storage.specs.declared.layer.Overlay.TheVariants.{Same}
use Rattle.contract_storage.proofs.Layers.{added, added_sound_code}
use Rattle.contract_storage.proofs.layer.Layer.add.Goals as goal

pub add-requires-clause-absent : goal.add-requires-clause-absent
add-requires-clause-absent g c = ap (λ (s : Layered). place_in c.args.key.now s.keys) c.self.view_is ∙ c.requires.absent

pub invariant_of-self-2 : goal.invariant_of-self-2
invariant_of-self-2 g c =
    added_sound_code c.self.inside.table.keys _ c.self.inside.states.items _ (saved_in c.self.inside.saved.items) c.args.key.now c.args.writes c.self.invariant
    (ap (λ (t : Listed). t.keys) c.in_ok-number.ensures.ok)
    (c.in_ok-push.ensures.items ∙ ap (λ (x : List Overlay). x ++ Same ∷ []) c.in_ok-reserve.ensures.items)

pub returns-clause-ok : goal.returns-clause-ok
returns-clause-ok g c =
    let t = c.self.inside.table in
    let x = c.self.inside.states.items in
    let k = c.args.key.now in
    let w = c.args.writes in
    let ss = saved_in c.self.inside.saved.items in
    ap (λ (u : Listed). layered u.base u.keys u.touches c.push.new.self.items ss) c.in_ok-number.ensures.ok
    ∙ ap (λ (y : List Overlay). layered t.base (t.keys ++ (k, w) ∷ []) t.touches y ss) (c.in_ok-push.ensures.items ∙ ap (λ (y : List Overlay). y ++ Same ∷ []) c.in_ok-reserve.ensures.items)
    ∙ added t.base t.keys t.touches x ss k w c.self.invariant ∙ ap (λ (s : Layered). with_slots s (s.keys ++ (k, w) ∷ [])) c.self.view_is
