use Rattle.std.proofs.Common.{◌∙◌, ap, sym, subst, Some, arith}
use Rattle.ledger_spec.specs.declared.Kept.{Kept}
use Rattle.ledger_spec.specs.LedgerMap.{find, key_bytes, IsKeptAt}
use Rattle.contract_storage.specs.Layered.{Layered}
use Rattle.contract_storage.specs.Places.{place_in}
use Rattle.contract_storage.specs.declared.layer.Overlay.TheVariants.{Same, Gone, Now}
use Rattle.contract_storage.proofs.Layers.{held_there, read_state, shown_at, state_index}
use Rattle.contract_storage.proofs.Placing.{spot_still}
use Rattle.contract_storage.proofs.layer.Layer.find.Goals as goal

pub index-requires : goal.index-requires
index-requires g c =
    let t = c.self.inside.table in
    omega (
      arith,
      state_index t.keys c.self.inside.states.items c.args.spot.key.now c.args.spot.at c.self.invariant.each
          (ap (λ (s : Layered). place_in c.args.spot.key.now s.keys) c.self.view_is ∙ c.requires.place),
      c.self.inside.states.ok.0,
    )

pub below-requires : goal.below-requires
below-requires g c = spot_still _ _ c.args.spot (ap (λ (s : Layered). s.keys) c.self.view_is) c.requires

pub returns-in-Same-clause-found : goal.returns-in-Same-clause-found
returns-in-Same-clause-found g c =
    let t = c.self.inside.table in
    let x = c.self.inside.states.items in
    let k = c.args.spot.key.now in
    let place = ap (λ (s : Layered). place_in k s.keys) c.self.view_is ∙ c.requires.place in
    c.below.ensures.found ∙ shown_at t.base t.keys x k c.args.spot.at Same c.requires.fits place (read_state t.keys x k c.args.spot.at _ Same c.self.invariant.each place c.index.ensures c.in-Same.is)
    ∙ ap (λ (s : Layered). find s.map k) c.self.view_is

pub returns-in-Gone-clause-found : goal.returns-in-Gone-clause-found
returns-in-Gone-clause-found g c =
    let t = c.self.inside.table in
    let x = c.self.inside.states.items in
    let k = c.args.spot.key.now in
    let place = ap (λ (s : Layered). place_in k s.keys) c.self.view_is ∙ c.requires.place in
    shown_at t.base t.keys x k c.args.spot.at Gone c.requires.fits place (read_state t.keys x k c.args.spot.at _ Gone c.self.invariant.each place c.index.ensures c.in-Gone.is)
    ∙ ap (λ (s : Layered). find s.map k) c.self.view_is

pub returns-in-Now-clause-found : goal.returns-in-Now-clause-found
returns-in-Now-clause-found g c =
    let t = c.self.inside.table in
    let x = c.self.inside.states.items in
    let k = c.args.spot.key.now in
    let place = ap (λ (s : Layered). place_in k s.keys) c.self.view_is ∙ c.requires.place in
    ap Some c.found_of.ensures
    ∙ shown_at t.base t.keys x k c.args.spot.at (Now c.in-Now.shared) c.requires.fits place (read_state t.keys x k c.args.spot.at _ (Now c.in-Now.shared) c.self.invariant.each place c.index.ensures c.in-Now.is)
    ∙ ap (λ (s : Layered). find s.map k) c.self.view_is

pub returns-in-Now-clause-kept : goal.returns-in-Now-clause-kept
returns-in-Now-clause-kept g c =
    let t = c.self.inside.table in
    let x = c.self.inside.states.items in
    let k = c.args.spot.key.now in
    let place = ap (λ (s : Layered). place_in k s.keys) c.self.view_is ∙ c.requires.place in
    subst (λ (kept : Kept). IsKeptAt (key_bytes k) kept) (sym c.found_of.ensures)
    (held_there t.keys k c.args.spot.at (Now c.in-Now.shared) c.requires.fits place
    (c.self.invariant.held c.args.spot.at (Now c.in-Now.shared) (read_state t.keys x k c.args.spot.at _ (Now c.in-Now.shared) c.self.invariant.each place c.index.ensures c.in-Now.is)))
