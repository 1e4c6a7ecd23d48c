use Rattle.std.proofs.Common.{subst}
use Rattle.contract_storage.specs.Slotted.{Slotted, stored_of}
use Rattle.contract_storage.specs.Stored.{IsHalfReleased, IsReleased}
use Rattle.contract_storage.proofs.Saving.{on_err, on_ok}
use Rattle.contract_storage.proofs.Slotting.{half_released, released}
use Rattle.contract_storage.proofs.entries.Entries.release.Goals as goal

pub returns-clause-ok : goal.returns-clause-ok
returns-clause-ok g c =
    let s : Slotted = record { layer = c.self.inside.layer; enforces = c.self.inside.enforces; seen = g.W.Watch.seen c.self.inside.watch; n = c.self.inside.n; lives = c.self.inside.lives } in
    on_ok c.close.result
    (λ map. subst (λ (x : Slotted). IsReleased (stored_of x) (stored_of (record s { layer = c.close.new.self }))) c.self.view_is
    (released s c.close.new.self c.close.ensures.maps map c.close.ensures.closed.0 c.close.ensures.closed.1)) c.close.ensures.map

pub returns-clause-err : goal.returns-clause-err
returns-clause-err g c =
    let s : Slotted = record { layer = c.self.inside.layer; enforces = c.self.inside.enforces; seen = g.W.Watch.seen c.self.inside.watch; n = c.self.inside.n; lives = c.self.inside.lives } in
    on_err c.close.result
    (λ mixed. subst (λ (x : Slotted). IsHalfReleased (stored_of x) (stored_of (record s { layer = c.close.new.self }))) c.self.view_is
    (half_released s c.close.new.self c.close.ensures.maps c.close.ensures.closed.0 c.close.ensures.closed.1 mixed)) c.close.ensures.closed.2
