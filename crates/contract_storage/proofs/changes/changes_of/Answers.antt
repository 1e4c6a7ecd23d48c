use Rattle.std.specs.List.{AllByRecursion}
use Rattle.std.specs.Prelude.{slice_get}
use Rattle.std.proofs.Common.{◌≡◌, ℕ, ◌∙◌, ◌++◌, [], List, Option, Some, length, ap, sym, subst, rules, arith}
use Rattle.ledger_types.specs.declared.key.LedgerKey.{LedgerKey}
use Rattle.ledger_spec.specs.declared.Kept.{Kept}
use Rattle.contract_storage.specs.Differences.{difference, differences, AreDifferences}
use Rattle.contract_storage.specs.Listed.{Listed, keys_in}
use Rattle.contract_storage.specs.Overlays.{shown, IsState}
use Rattle.contract_storage.specs.declared.changes.Change.{Change}
use Rattle.contract_storage.specs.declared.layer.Overlay.{Overlay}
use Rattle.contract_storage.proofs.Changing.{all_differences, more_differences}
use Rattle.contract_storage.proofs.Layers.{state_index}
use Rattle.contract_storage.proofs.Tabling.{all_indexed, below_is, changes_are, placed, placed_one, place_index, slot_there, IsIndexed}
use Rattle.contract_storage.proofs.changes.changes_of.Goals as goal

pub loop-key-init : goal.loop-key-init
loop-key-init g c =
    let base = g.G.Ground.map c.table.inside.base.now in
    let e : c.into_iter-key-iterator.result ≡ c.table.inside.index.entries = c.into_iter-key-iterator.ensures.into_iter_gives ∙ c.iter-key-items.ensures.rest in
    let none : c.new-changes.result.items ≡ [] = search rules in (
      subst (AllByRecursion (IsIndexed (keys_in c.table.inside.slots.items))) (sym e)
          (all_indexed (keys_in c.table.inside.slots.items) c.table.inside.index.entries c.table.invariant.places c.table.invariant.fits c.iter-key-items.ensures.ordered),
      ap (λ (cs : List Change). cs ++ differences base (placed c.args.states.now c.into_iter-key-iterator.result)) none
          ∙ ap (λ (es : List (LedgerKey × ℕ)). differences base (placed c.args.states.now es)) e,
    )

pub state_at-state-requires : goal.state_at-state-requires
state_at-state-requires g c =
    let keys = keys_in c.table.inside.slots.items in
    let one = (subst (AllByRecursion (IsIndexed keys)) c.in-Some.ensures.steps c.loop-key.invariant.0).0 in
    let each = c.requires.each ∙ sym (ap (λ (t : Listed). length t.keys) c.table.view_is) in
    state_index keys c.args.states.now c.in-Some.key.now c.in-Some.at.now each one.place

pub index-requires : goal.index-requires
index-requires g c =
    let one = (subst (AllByRecursion (IsIndexed (keys_in c.table.inside.slots.items))) c.in-Some.ensures.steps c.loop-key.invariant.0).0 in
    omega (arith, place_index c.table.inside.slots.items c.in-Some.key.now c.in-Some.at.now one.place, c.table.inside.slots.ok.0)

pub loop-key-preserved : goal.loop-key-preserved
loop-key-preserved g c =
    let base = g.G.Ground.map c.table.inside.base.now in
    let slots = c.table.inside.slots.items in
    let keys = keys_in slots in
    let states = c.args.states.now in
    let key = c.in-Some.key.now in
    let place = c.in-Some.at.now in
    let state = c.state_at-state.result.now in
    let each = c.requires.each ∙ sym (ap (λ (t : Listed). length t.keys) c.table.view_is) in
    let both = subst (AllByRecursion (IsIndexed keys)) c.in-Some.ensures.steps c.loop-key.invariant.0 in
    let there = c.state_at-state.ensures in
    let slot = slot_there base slots key place c.index.result.now c.table.invariant.right both.0.fits both.0.place c.index.ensures in (
      both.1,
      more_differences base c.loop-key.changes.items c.push_change.new.changes.items _ c.in_ok-change.change (placed states c.loop-key.key-iterator) (placed states c.next.new.self) (key, state)
          c.loop-key.invariant.1 (ap (placed states) c.in-Some.ensures.steps ∙ placed_one keys states each (key, place) c.next.new.self state there)
          (c.in_ok-change.ensures ∙ ap (λ (below : Option Kept). difference below (key, state)) (below_is base key c.index.result.now slot)) c.in_ok-push_change.ensures,
    )

pub returns : goal.returns
returns g c =
    let base = g.G.Ground.map c.table.inside.base.now in
    let keys = keys_in c.table.inside.slots.items in
    let es = c.table.inside.index.entries in
    let states = c.args.states.now in
    let cs = c.loop-key.changes.items in
    let each = c.requires.each ∙ sym (ap (λ (t : Listed). length t.keys) c.table.view_is) in
    let held = subst (λ (t : Listed). (i : ℕ) (x : Overlay) → slice_get states i ≡ Some x → IsState t.keys (i, x)) (sym c.table.view_is) c.requires.held in
    let all = all_indexed keys es c.table.invariant.places c.table.invariant.fits c.iter-key-items.ensures.ordered in
    subst (λ (t : Listed). AreDifferences t.base (shown t.base t.keys states) cs) c.table.view_is
    (changes_are keys states each base es cs held c.table.invariant.places all c.iter-key-items.ensures.ordered
    (all_differences base cs (differences base (placed states es)) (placed states c.loop-key.key-iterator) c.loop-key.invariant.1 (ap (placed states) c.in-None.ensures.steps.0)))
