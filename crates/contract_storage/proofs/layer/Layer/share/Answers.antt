use Rattle.std.proofs.Common.{◌≡◌, ◌∙◌, ap, Some, arith}
use Rattle.std.proofs.lemmas.Option.{same_Some}
use Rattle.ledger_spec.specs.declared.Kept.{Kept}
use Rattle.ledger_spec.specs.LedgerMap.{find}
use Rattle.entry_lookup.specs.Found.{kept_of}
use Rattle.contract_storage.specs.Layered.{Layered}
use Rattle.contract_storage.specs.Overlays.{kept_in}
use Rattle.contract_storage.specs.Places.{place_in}
use Rattle.contract_storage.specs.declared.layer.Overlay.TheVariants.{Now}
use Rattle.contract_storage.proofs.Layers.{read_state, shown_at, state_index}
use Rattle.contract_storage.proofs.layer.Layer.share.Goals as goal

pub index-requires : goal.index-requires
index-requires g c =
    omega (
      arith,
      state_index c.self.inside.table.keys c.self.inside.states.items c.args.spot.key.now c.args.spot.at c.self.invariant.each
          (ap (λ (s : Layered). place_in c.args.spot.key.now s.keys) c.self.view_is ∙ c.requires.spot.place),
      c.self.inside.states.ok.0,
    )

pub returns-in_ok-clone-in-Now : goal.returns-in_ok-clone-in-Now
returns-in_ok-clone-in-Now g c =
    let t = c.self.inside.table in
    let x = c.self.inside.states.items in
    let k = c.args.spot.key.now in
    let place = ap (λ (s : Layered). place_in k s.keys) c.self.view_is ∙ c.requires.spot.place in
    let here : Some (kept_in c.in-Now.shared) ≡ Some (kept_of c.args.found) =
    shown_at t.base t.keys x k c.args.spot.at (Now c.in-Now.shared) c.requires.spot.fits place (read_state t.keys x k c.args.spot.at _ (Now c.in-Now.shared) c.self.invariant.each place c.index.ensures c.in-Now.is)
    ∙ ap (λ (s : Layered). find s.map k) c.self.view_is ∙ c.requires.there in
    c.in_ok-clone-in-Now.ensures.cases ∙ ap (λ (kept : Kept). kept.entry) (same_Some (kept_in c.in-Now.shared) (kept_of c.args.found) here)
