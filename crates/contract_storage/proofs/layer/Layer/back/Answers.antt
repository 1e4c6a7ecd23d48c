use Rattle.std.specs.List.{AllByRecursion}
use Rattle.std.specs.Prelude.{map}
use Rattle.std.proofs.Common.{◌∙◌, ◌++◌, [], ◌∷◌, List, ap, sym, subst}
use Rattle.contract_storage.specs.Layered.{Layered}
use Rattle.contract_storage.specs.Overlays.{all_states, saved_in, shown, IsSound, IsState}
use Rattle.contract_storage.specs.declared.layer.Overlay.{Overlay}
use Rattle.contract_storage.proofs.Layers.{back_held, closing, states_within}
use Rattle.contract_storage.proofs.Saving.{saved_more}
use Rattle.contract_storage.proofs.Undoing.{all_less, back_length}
use Rattle.contract_storage.proofs.layer.Layer.back.Goals as goal

pub put_all_back-requires : goal.put_all_back-requires
put_all_back-requires g c =
    let keys = c.self.inside.table.keys in
    let one = ap saved_in c.in-Some.ensures.items ∙ saved_more c.pop.new.self.items c.in-Some.saved in
    states_within keys c.in-Some.saved.states.entries _ (sym c.self.invariant.each)
    (all_less (AllByRecursion (IsState keys)) (saved_in c.pop.new.self.items) c.in-Some.saved.states.entries (subst (AllByRecursion (AllByRecursion (IsState keys))) one c.self.invariant.saved)).1

pub invariant_of-self : goal.invariant_of-self
invariant_of-self g c =
    let keys = c.self.inside.table.keys in
    let x = c.self.inside.states.items in
    let s = c.in-Some.saved.states.entries in
    let one = ap saved_in c.in-Some.ensures.items ∙ saved_more c.pop.new.self.items c.in-Some.saved in
    let h = all_less (AllByRecursion (IsState keys)) (saved_in c.pop.new.self.items) s (subst (AllByRecursion (AllByRecursion (IsState keys))) one c.self.invariant.saved) in
    subst (λ (y : List Overlay). IsSound keys y (saved_in c.pop.new.self.items)) (sym c.put_all_back.ensures) (record {
      each = back_length s x ∙ c.self.invariant.each;
      held = back_held keys x s h.1 c.self.invariant.held;
      saved = h.0;
    })

pub returns-in-Some-clause-back : goal.returns-in-Some-clause-back
returns-in-Some-clause-back g c =
    let t = c.self.inside.table in
    let x = c.self.inside.states.items in
    let front = c.pop.new.self.items in
    let one = ap saved_in c.in-Some.ensures.items ∙ saved_more front c.in-Some.saved in
    sym (ap (λ (s : Layered). s.snapshots) c.self.view_is)
    ∙ closing t.base t.keys x (saved_in c.self.inside.saved.items) (saved_in front) c.in-Some.saved.states.entries one
    ∙ ap (λ (y : List Overlay). map (shown t.base t.keys) (all_states y (saved_in front)) ++ shown t.base t.keys y ∷ []) (sym c.put_all_back.ensures)
