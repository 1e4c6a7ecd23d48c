use Rattle.std.proofs.Common.{◌∙◌, ap}
use Rattle.contract_storage.specs.Slotted.{Slotted, stored_of}
use Rattle.contract_storage.specs.Stored.{with_snapshot}
use Rattle.contract_storage.proofs.Saving.{on_ok}
use Rattle.contract_storage.proofs.Slotting.{opened}
use Rattle.contract_storage.proofs.entries.Entries.snapshot.Goals as goal

pub returns-clause-ok : goal.returns-clause-ok
returns-clause-ok g c =
    let v : Slotted = record { layer = c.self.inside.layer; enforces = c.self.inside.enforces; seen = g.W.Watch.seen c.self.inside.watch; n = c.self.inside.n; lives = c.self.inside.lives } in
    on_ok c.open.result (λ is. opened v c.open.new.self is ∙ ap (λ (s : Slotted). with_snapshot (stored_of s)) c.self.view_is) c.open.ensures.ok
