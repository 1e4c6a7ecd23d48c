use Rattle.std.proofs.Common.{true, Err, ◌≡◌, ◌∙◌, sym, subst}
use Rattle.contract_storage.specs.Acts.{Reads, has_act}
use Rattle.contract_storage.specs.Slotted.{stored_of}
use Rattle.contract_storage.specs.Stored.{Stored}
use Rattle.contract_storage.specs.Touched.{admits}
use Rattle.contract_storage.specs.declared.access.Access.TheVariants.{Read}
use Rattle.contract_storage.proofs.Slotting.{denied_reads}
use Rattle.contract_storage.proofs.storage.Storage.has.Goals as goal

pub has-requires-clause-spot : goal.has-requires-clause-spot
has-requires-clause-spot g c = record { fits = c.requires; place = c.in-Ok.ensures.1 }

pub has-requires-clause-allowed : goal.has-requires-clause-allowed
has-requires-clause-allowed g c = subst (λ (s : Stored). admits s.declared Read c.args.key.now ≡ true) (sym c.in-Ok.ensures.2) c.in-Ok.ensures.0

pub returns-in-Ok : goal.returns-in-Ok
returns-in-Ok g c =
    subst (λ (s : Stored). Reads (has_act c.args.key.now) c.has.result s (stored_of c.has.new.self)) (c.in-Ok.ensures.2 ∙ c.self.view_is) c.has.ensures

pub returns-in-Err : goal.returns-in-Err
returns-in-Err g c =
    subst (λ (s : Stored). Reads (has_act c.args.key.now) (Err c.in-Err.e) s (stored_of c.slot_for.new.self)) c.self.view_is
    (denied_reads Read c.args.key.now _ c.in-Err.e c.self.inside.entries c.slot_for.new.self c.in-Err.ensures)
