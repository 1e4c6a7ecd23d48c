use Rattle.std.proofs.Common.{true, Err, ◌≡◌, ◌∙◌, sym, subst}
use Rattle.ledger_types.specs.declared.key.LedgerKey.{LedgerKey}
use Rattle.contract_storage.specs.Acts.{Does, judged, makes, make_act}
use Rattle.contract_storage.specs.Slotted.{stored_of}
use Rattle.contract_storage.specs.Stored.{Stored}
use Rattle.contract_storage.specs.Touched.{admits}
use Rattle.contract_storage.specs.declared.access.Access.TheVariants.{Write}
use Rattle.contract_storage.proofs.Doing.{fits_key}
use Rattle.contract_storage.proofs.Slotting.{denied_does}
use Rattle.contract_storage.proofs.storage.Storage.make.Goals as goal

pub slot_for-requires : goal.slot_for-requires
slot_for-requires g c = fits_key c.args.key.now c.args.entry c.requires.key c.requires.fits

pub make-requires-clause-spot : goal.make-requires-clause-spot
make-requires-clause-spot g c = record { fits = fits_key c.args.key.now c.args.entry c.requires.key c.requires.fits; place = c.in-Ok.ensures.1 }

pub make-requires-clause-allowed : goal.make-requires-clause-allowed
make-requires-clause-allowed g c = subst (λ (s : Stored). admits s.declared Write c.args.key.now ≡ true) (sym c.in-Ok.ensures.2) c.in-Ok.ensures.0

pub returns : goal.returns
returns g c =
    subst (λ (s : Stored). Does (make_act c.args.entry c.args.live_until) c.make.result s (stored_of c.make.new.self)) (c.in-Ok.ensures.2 ∙ c.self.view_is) c.make.ensures

pub returns-in-Err : goal.returns-in-Err
returns-in-Err g c =
    subst (λ (k : LedgerKey). Does (judged Write k (makes c.args.entry c.args.live_until)) (Err c.in-Err.e) c.args.self.now (stored_of c.slot_for.new.self)) c.requires.key
    (subst (λ (s : Stored). Does (judged Write c.args.key.now (makes c.args.entry c.args.live_until)) (Err c.in-Err.e) s (stored_of c.slot_for.new.self)) c.self.view_is
    (denied_does Write c.args.key.now (makes c.args.entry c.args.live_until) c.in-Err.e c.self.inside.entries c.slot_for.new.self c.in-Err.ensures))
