use Rattle.std.proofs.Common.{subst}
use Rattle.contract_storage.specs.Slotted.{Slotted, stored_of}
use Rattle.contract_storage.specs.Stored.{IsRestored}
use Rattle.contract_storage.proofs.Slotting.{restored}
use Rattle.contract_storage.proofs.entries.Entries.restore.Goals as goal

pub returns : goal.returns
returns g c =
    let s : Slotted = record { layer = c.self.inside.layer; enforces = c.self.inside.enforces; seen = g.W.Watch.seen c.self.inside.watch; n = c.self.inside.n; lives = c.self.inside.lives } in
    subst (λ (x : Slotted). IsRestored (stored_of x) (stored_of (record s { layer = c.back.new.self }))) c.self.view_is (restored s c.back.new.self c.back.ensures.maps c.back.ensures.back)
