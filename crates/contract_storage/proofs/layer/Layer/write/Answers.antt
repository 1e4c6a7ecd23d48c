use Rattle.std.specs.Prelude.{slice_index_or}
use Rattle.std.specs.Option.{option_map}
use Rattle.std.proofs.Common.{◌≡◌, List, ◌∙◌, ap, ap₂, refl, sym, subst, arith}
use Rattle.ledger_spec.specs.LedgerMap.{key_bytes}
use Rattle.contract_storage.specs.Layered.{Layered, with_write}
use Rattle.contract_storage.specs.Overlays.{kept_in, layered, saved_in, IsSound}
use Rattle.contract_storage.specs.Places.{place_in}
use Rattle.contract_storage.specs.declared.layer.Overlay.{Overlay}
use Rattle.contract_storage.proofs.Layers.{state_index, unwrote, wrote, wrote_sound}
use Rattle.contract_storage.proofs.layer.Layer.write.Goals as goal

pub index_mut-requires : goal.index_mut-requires
index_mut-requires g c =
    omega (
      arith,
      state_index c.self.inside.table.keys c.self.inside.states.items c.args.spot.key.now c.args.spot.at c.self.invariant.each
          (ap (λ (s : Layered). place_in c.args.spot.key.now s.keys) c.self.view_is ∙ c.requires.spot.place),
      c.self.inside.states.ok.0,
    )

pub invariant_of-self : goal.invariant_of-self
invariant_of-self g c =
    let x = c.self.inside.states.items in
    let k = c.args.spot.key.now in
    let place = ap (λ (s : Layered). place_in k s.keys) c.self.view_is ∙ c.requires.spot.place in
    let was = subst (λ (o : Overlay). o ≡ slice_index_or x c.args.spot.at o) (sym c.replace-before.ensures.value) c.index_mut.ensures.value in
    wrote_sound c.self.inside.table.keys x _ k c.args.spot.at c.args.now _ c.replace-before.result c.self.invariant c.requires.spot.fits place
    (c.replace-before.ensures.after ∙ c.overlay_of.ensures) was _ _ c.requires.kept refl c.in-Ok.ensures.ok

pub index_mut-requires-in-Err : goal.index_mut-requires-in-Err
index_mut-requires-in-Err g c =
    omega (
      arith,
      state_index c.self.inside.table.keys c.self.inside.states.items c.args.spot.key.now c.args.spot.at c.self.invariant.each
          (ap (λ (s : Layered). place_in c.args.spot.key.now s.keys) c.self.view_is ∙ c.requires.spot.place),
      c.self.inside.states.ok.0,
    )

pub returns-in-Ok-clause-ok : goal.returns-in-Ok-clause-ok
returns-in-Ok-clause-ok g c =
    let t = c.self.inside.table in
    let x = c.self.inside.states.items in
    let k = c.args.spot.key.now in
    let place = ap (λ (s : Layered). place_in k s.keys) c.self.view_is ∙ c.requires.spot.place in
    let was = subst (λ (o : Overlay). o ≡ slice_index_or x c.args.spot.at o) (sym c.replace-before.ensures.value) c.index_mut.ensures.value in
    wrote t.keys x _ k c.args.spot.at c.args.now _ c.replace-before.result c.self.invariant c.requires.spot.fits place
    (c.replace-before.ensures.after ∙ c.overlay_of.ensures) was t.base t.touches _ _ refl c.in-Ok.ensures.ok
    ∙ ap (λ (s : Layered). with_write s (key_bytes k) (option_map kept_in c.args.now)) c.self.view_is

pub invariant_of-self-in-Err : goal.invariant_of-self-in-Err
invariant_of-self-in-Err g c =
    let keys = c.self.inside.table.keys in
    let x = c.self.inside.states.items in
    let k = c.args.spot.key.now in
    let place = ap (λ (s : Layered). place_in k s.keys) c.self.view_is ∙ c.requires.spot.place in
    let was = subst (λ (o : Overlay). o ≡ slice_index_or x c.args.spot.at o) (sym c.replace-before.ensures.value) c.index_mut.ensures.value in
    let same = unwrote keys x (saved_in c.self.inside.saved.items) k c.args.spot.at c.args.now _ c.replace-before.result c.self.invariant c.requires.spot.fits place
    (c.replace-before.ensures.after ∙ c.overlay_of.ensures) was _ c.in-Err.before c.in-Err.ensures.err refl in
    subst (IsSound keys _) (sym c.in-Err.ensures.stays) (subst (λ (y : List Overlay). IsSound keys y (saved_in c.self.inside.saved.items)) (sym same) c.self.invariant)

pub returns-in-Err-clause-err : goal.returns-in-Err-clause-err
returns-in-Err-clause-err g c =
    let t = c.self.inside.table in
    let x = c.self.inside.states.items in
    let k = c.args.spot.key.now in
    let place = ap (λ (s : Layered). place_in k s.keys) c.self.view_is ∙ c.requires.spot.place in
    let was = subst (λ (o : Overlay). o ≡ slice_index_or x c.args.spot.at o) (sym c.replace-before.ensures.value) c.index_mut.ensures.value in
    let same = unwrote t.keys x (saved_in c.self.inside.saved.items) k c.args.spot.at c.args.now _ c.replace-before.result c.self.invariant c.requires.spot.fits place
    (c.replace-before.ensures.after ∙ c.overlay_of.ensures) was _ c.in-Err.before c.in-Err.ensures.err refl in
    ap₂ (layered t.base t.keys t.touches) same c.in-Err.ensures.stays ∙ c.self.view_is
