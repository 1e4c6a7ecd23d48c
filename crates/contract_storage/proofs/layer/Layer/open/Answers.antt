use Rattle.std.proofs.Common.{◌∙◌, ◌++◌, [], ◌∷◌, ap}
use Rattle.contract_storage.specs.Layered.{with_snapshot}
use Rattle.contract_storage.specs.Overlays.{layered, saved_in}
use Rattle.contract_storage.proofs.Layers.{opened}
use Rattle.contract_storage.proofs.Saving.{saved_more}
use Rattle.contract_storage.proofs.Undoing.{States}
use Rattle.contract_storage.proofs.layer.Layer.open.Goals as goal

pub returns-clause-ok : goal.returns-clause-ok
returns-clause-ok g c =
    let t = c.self.inside.table in
    let x = c.self.inside.states.items in
    let items = ap saved_in c.in_ok-push.ensures.items ∙ saved_more c.self.inside.saved.items _ ∙ ap (λ (es : States). saved_in c.self.inside.saved.items ++ es ∷ []) c.new-states.ensures.empty in
    ap (layered t.base t.keys t.touches x) items ∙ opened t.base t.keys t.touches x (saved_in c.self.inside.saved.items) ∙ ap with_snapshot c.self.view_is
