use Rattle.std.specs.List.{AllByRecursion}
use Rattle.std.specs.Prelude.{map, slice_set}
use Rattle.std.proofs.Common.{◌≡◌, ◌+◌, ◌-◌, ◌∙◌, ◌++◌, [], ◌∷◌, List, length, ap, sym, subst, arith, ◌<◌}
use Rattle.std.proofs.lemmas.List.{nil_from_length}
use Rattle.ledger_spec.specs.LedgerMap.{LedgerMap}
use Rattle.contract_storage.specs.Layered.{Layered, IsMixed}
use Rattle.contract_storage.specs.Overlays.{all_states, back, saved_in, shown, undone, AreMixed, IsSound, IsState}
use Rattle.contract_storage.specs.declared.layer.Overlay.{Overlay}
use Rattle.contract_storage.specs.declared.layer.Saved.{Saved}
use Rattle.contract_storage.proofs.Layers.{back_held, closing, shown_mixed, state_within, states_within}
use Rattle.contract_storage.proofs.Saving.{all_at, all_set, saved_more, snapshots_set}
use Rattle.contract_storage.proofs.Undoing.{States, all_less, back_length}
use Rattle.contract_storage.proofs.layer.Layer.close.Goals as goal

pub returns-then-open-eq0-clause-closed : goal.returns-then-open-eq0-clause-closed
returns-then-open-eq0-clause-closed g c =
    let t = c.self.inside.table in
    let x = c.self.inside.states.items in
    let front = c.pop.new.self.items in
    let newest = back c.in-Some.newest.states.entries x in
    let one = ap saved_in c.in-Some.ensures.items ∙ saved_more front c.in-Some.newest in
    let zero : length front ≡ 0 = omega (arith, c.len-open.ensures, c.if-open-eq0.true) in
    let empty : front ≡ [] = nil_from_length front zero in (
      shown t.base t.keys newest,
      sym (ap (λ (s : Layered). s.snapshots) c.self.view_is) ∙ closing t.base t.keys x (saved_in c.self.inside.saved.items) (saved_in front) c.in-Some.newest.states.entries one
          ∙ ap (λ (xs : List Saved). map (shown t.base t.keys) (all_states newest (saved_in xs)) ++ shown t.base t.keys newest ∷ []) empty
          ∙ ap (λ (xs : List Saved). map (shown t.base t.keys) (all_states x (saved_in xs)) ++ shown t.base t.keys newest ∷ []) (sym empty),
      tt,
    )

-- ---- the states that are merged

pub invariant_of-self-in-Ok-1 : goal.invariant_of-self-in-Ok-1
invariant_of-self-in-Ok-1 g c =
    let keys = c.self.inside.table.keys in
    let front = c.pop.new.self.items in
    let last : c.len-open.result - 1 + 1 ≡ length front = omega (arith, c.len-open.ensures, c.if-open-eq0.false) in
    let one = ap saved_in c.in-Some.ensures.items ∙ saved_more front c.in-Some.newest in
    let both = all_less (AllByRecursion (IsState keys)) (saved_in front) c.in-Some.newest.states.entries (subst (AllByRecursion (AllByRecursion (IsState keys))) one c.self.invariant.saved) in
    let older = all_at (AllByRecursion (IsState keys)) front (c.len-open.result - 1) c.index_mut.result.now last both.0 c.index_mut.ensures.value in
    record {
      each = c.self.invariant.each;
      held = c.self.invariant.held;
      saved = all_set (AllByRecursion (IsState keys)) front (c.len-open.result - 1) _ last both.0 (c.merge.ensures.states keys older both.1).0;
    }

pub put_all_back-requires : goal.put_all_back-requires
put_all_back-requires g c =
    let keys = c.self.inside.table.keys in
    let front = c.pop.new.self.items in
    let last : c.len-open.result - 1 + 1 ≡ length front = omega (arith, c.len-open.ensures, c.if-open-eq0.false) in
    let one = ap saved_in c.in-Some.ensures.items ∙ saved_more front c.in-Some.newest in
    let both = all_less (AllByRecursion (IsState keys)) (saved_in front) c.in-Some.newest.states.entries (subst (AllByRecursion (AllByRecursion (IsState keys))) one c.self.invariant.saved) in
    let older = all_at (AllByRecursion (IsState keys)) front (c.len-open.result - 1) c.index_mut.result.now last both.0 c.index_mut.ensures.value in
    states_within keys c.merge.new.newest.entries _ (sym c.self.invariant.each) (c.merge.ensures.states keys older both.1).1

pub put_back-requires : goal.put_back-requires
put_back-requires g c =
    let keys = c.self.inside.table.keys in
    let x = c.self.inside.states.items in
    let front = c.pop.new.self.items in
    let last : c.len-open.result - 1 + 1 ≡ length front = omega (arith, c.len-open.ensures, c.if-open-eq0.false) in
    let one = ap saved_in c.in-Some.ensures.items ∙ saved_more front c.in-Some.newest in
    let both = all_less (AllByRecursion (IsState keys)) (saved_in front) c.in-Some.newest.states.entries (subst (AllByRecursion (AllByRecursion (IsState keys))) one c.self.invariant.saved) in
    let older = all_at (AllByRecursion (IsState keys)) front (c.len-open.result - 1) c.index_mut.result.now last both.0 c.index_mut.ensures.value in
    let w : c.in-Err.undo.at < length keys = state_within keys (undone c.in-Err.undo) (c.in-Err.ensures.states keys older both.1).2 in
    omega (arith, w, c.self.invariant.each, ap length c.put_all_back.ensures, back_length c.merge.new.newest.entries x)

pub invariant_of-self-in-Err : goal.invariant_of-self-in-Err
invariant_of-self-in-Err g c =
    let keys = c.self.inside.table.keys in
    let x = c.self.inside.states.items in
    let front = c.pop.new.self.items in
    let last : c.len-open.result - 1 + 1 ≡ length front = omega (arith, c.len-open.ensures, c.if-open-eq0.false) in
    let one = ap saved_in c.in-Some.ensures.items ∙ saved_more front c.in-Some.newest in
    let both = all_less (AllByRecursion (IsState keys)) (saved_in front) c.in-Some.newest.states.entries (subst (AllByRecursion (AllByRecursion (IsState keys))) one c.self.invariant.saved) in
    let older = all_at (AllByRecursion (IsState keys)) front (c.len-open.result - 1) c.index_mut.result.now last both.0 c.index_mut.ensures.value in
    let states = c.in-Err.ensures.states keys older both.1 in
    let s : States = undone c.in-Err.undo ∷ c.merge.new.newest.entries in
    let is : c.put_back.new.states.items ≡ back s x = c.put_back.ensures ∙ ap (back (undone c.in-Err.undo ∷ [])) c.put_all_back.ensures in
    subst (λ (y : List Overlay). IsSound keys y (saved_in (slice_set front (c.len-open.result - 1) (record { states = c.merge.new.older })))) (sym is) (record {
      each = back_length s x ∙ c.self.invariant.each;
      held = back_held keys x s (states.2, states.1) c.self.invariant.held;
      saved = all_set (AllByRecursion (IsState keys)) front (c.len-open.result - 1) (record { states = c.merge.new.older }) last both.0 states.0;
    })

pub returns-in-Ok-clause-closed : goal.returns-in-Ok-clause-closed
returns-in-Ok-clause-closed g c =
    let t = c.self.inside.table in
    let x = c.self.inside.states.items in
    let front = c.pop.new.self.items in
    let newest = back c.in-Some.newest.states.entries x in
    let one = ap saved_in c.in-Some.ensures.items ∙ saved_more front c.in-Some.newest in
    let last : c.len-open.result - 1 + 1 ≡ length front = omega (arith, c.len-open.ensures, c.if-open-eq0.false) in (
      shown t.base t.keys newest,
      sym (ap (λ (s : Layered). s.snapshots) c.self.view_is) ∙ closing t.base t.keys x (saved_in c.self.inside.saved.items) (saved_in front) c.in-Some.newest.states.entries one
          ∙ ap (λ (ms : List (List Overlay)). map (shown t.base t.keys) ms ++ shown t.base t.keys newest ∷ [])
          (sym (snapshots_set newest x c.index_mut.result.now _ (c.in-Ok.ensures.ok x) front (c.len-open.result - 1) last c.index_mut.ensures.value)),
      tt,
    )

pub returns-in-Err-clause-closed : goal.returns-in-Err-clause-closed
returns-in-Err-clause-closed g c =
    let t = c.self.inside.table in
    let x = c.self.inside.states.items in
    let front = c.pop.new.self.items in
    let newest = back c.in-Some.newest.states.entries x in
    let one = ap saved_in c.in-Some.ensures.items ∙ saved_more front c.in-Some.newest in
    let last : c.len-open.result - 1 + 1 ≡ length front = omega (arith, c.len-open.ensures, c.if-open-eq0.false) in
    let older : Saved = record { states = c.merge.new.older } in
    let s : States = undone c.in-Err.undo ∷ c.merge.new.newest.entries in
    let is : c.put_back.new.states.items ≡ back s x = c.put_back.ensures ∙ ap (back (undone c.in-Err.undo ∷ [])) c.put_all_back.ensures in (
      shown t.base t.keys newest,
      sym (ap (λ (l : Layered). l.snapshots) c.self.view_is) ∙ closing t.base t.keys x (saved_in c.self.inside.saved.items) (saved_in front) c.in-Some.newest.states.entries one
          ∙ ap (λ (ms : List (List Overlay)). map (shown t.base t.keys) ms ++ shown t.base t.keys newest ∷ [])
          (sym (snapshots_set newest (back s x) c.index_mut.result.now older (c.in-Err.ensures.err x) front (c.len-open.result - 1) last c.index_mut.ensures.value))
          ∙ ap (λ (y : List Overlay). map (shown t.base t.keys) (all_states y (saved_in (slice_set front (c.len-open.result - 1) older))) ++ shown t.base t.keys newest ∷ []) (sym is),
      subst (λ (m : LedgerMap). IsMixed m (shown t.base t.keys newest) (shown t.base t.keys c.put_back.new.states.items)) (ap (λ (l : Layered). l.map) c.self.view_is)
          (shown_mixed t.base t.keys x newest c.put_back.new.states.items (subst (λ (y : List Overlay). AreMixed x newest y) (sym is) (c.in-Err.ensures.mixed x))),
    )
