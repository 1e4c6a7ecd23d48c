use Rattle.std.specs.Prelude.{slice_get}
use Rattle.std.proofs.Common.{◌≡◌, ℕ, List, length, Some, sym, subst, IfOk}
use Rattle.contract_storage.specs.Layered.{Layered}
use Rattle.contract_storage.specs.Differences.{AreDifferences}
use Rattle.contract_storage.specs.Overlays.{shown, IsState}
use Rattle.contract_storage.specs.declared.layer.Overlay.{Overlay}
use Rattle.contract_storage.proofs.layer.Layer.changes.Goals as goal

pub changes_of-requires-clause-each : goal.changes_of-requires-clause-each
changes_of-requires-clause-each g c = subst (λ (x : List Overlay). length x ≡ length c.self.inside.table.keys) (sym c.as_slice.ensures.value) c.self.invariant.each

pub changes_of-requires-clause-held : goal.changes_of-requires-clause-held
changes_of-requires-clause-held g c =
    subst (λ (x : List Overlay). (i : ℕ) (z : Overlay) → slice_get x i ≡ Some z → IsState c.self.inside.table.keys (i, z)) (sym c.as_slice.ensures.value) c.self.invariant.held

pub returns : goal.returns
returns g c =
    subst (λ (s : Layered). IfOk c.changes_of.result (λ changes. AreDifferences s.base s.map changes.items)) c.self.view_is
    (subst (λ (x : List Overlay). IfOk c.changes_of.result (λ changes. AreDifferences c.self.inside.table.base (shown c.self.inside.table.base c.self.inside.table.keys x) changes.items)) c.as_slice.ensures.value c.changes_of.ensures)
