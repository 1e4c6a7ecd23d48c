use Rattle.std.proofs.Common.{true, Err, ◌≡◌, ◌∙◌, sym, subst}
use Rattle.contract_storage.specs.Acts.{Does, del_act}
use Rattle.contract_storage.specs.Slotted.{stored_of}
use Rattle.contract_storage.specs.Stored.{Stored}
use Rattle.contract_storage.specs.Touched.{admits}
use Rattle.contract_storage.specs.declared.access.Access.TheVariants.{Write}
use Rattle.contract_storage.proofs.Slotting.{denied_does}
use Rattle.contract_storage.proofs.storage.Storage.del.Goals as goal

pub del-requires-clause-spot : goal.del-requires-clause-spot
del-requires-clause-spot g c = record { fits = c.requires; place = c.in-Ok.ensures.1 }

pub del-requires-clause-allowed : goal.del-requires-clause-allowed
del-requires-clause-allowed g c = subst (λ (s : Stored). admits s.declared Write c.args.key.now ≡ true) (sym c.in-Ok.ensures.2) c.in-Ok.ensures.0

pub returns-in-Ok : goal.returns-in-Ok
returns-in-Ok g c =
    subst (λ (s : Stored). Does (del_act c.args.key.now) c.del.result s (stored_of c.del.new.self)) (c.in-Ok.ensures.2 ∙ c.self.view_is) c.del.ensures

pub returns-in-Err : goal.returns-in-Err
returns-in-Err g c =
    subst (λ (s : Stored). Does (del_act c.args.key.now) (Err c.in-Err.e) s (stored_of c.slot_for.new.self)) c.self.view_is
    (denied_does Write c.args.key.now _ c.in-Err.e c.self.inside.entries c.slot_for.new.self c.in-Err.ensures)
