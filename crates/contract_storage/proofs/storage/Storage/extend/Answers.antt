use Rattle.std.specs.Prelude.{if◌then◌else◌, nat_lt}
use Rattle.std.proofs.Common.{ℕ, Bool, true, false, Result, Err, ◌≡◌, ◌∙◌, sym, subst, rules}
use Rattle.ledger_types.specs.declared.key.LedgerKey.{LedgerKey}
use Rattle.ledger_spec.specs.Changes.{backward}
use Rattle.contract_storage.specs.Acts.{Does, extend_act, extends, judged, left, refusal}
use Rattle.contract_storage.specs.declared.access.StoErr.{StoErr}
use Rattle.contract_storage.specs.Slotted.{stored_of}
use Rattle.contract_storage.specs.Stored.{Stored}
use Rattle.contract_storage.specs.Touched.{admits}
use Rattle.contract_storage.specs.declared.access.Access.TheVariants.{Extend}
use Rattle.contract_storage.proofs.Slotting.{denied_does}
use Rattle.contract_storage.proofs.storage.Storage.extend.Goals as goal

-- a threshold that is not above `extend_to` is passed over
extends_ahead : (key : LedgerKey) (threshold extend_to : ℕ) (r : Result (Unit {0}) StoErr) (old new : Stored) → nat_lt extend_to threshold ≡ false
    → Does (judged Extend key (extends key threshold extend_to)) r old new → Does (extend_act key threshold extend_to) r old new
extends_ahead key threshold extend_to r old new ahead does =
    subst (λ (b : Bool). Does (λ (s : Stored). if b then (Err (refusal backward), left s) else judged Extend key (extends key threshold extend_to) s) r old new) (sym ahead) does

pub extend-requires-clause-spot : goal.extend-requires-clause-spot
extend-requires-clause-spot g c = record { fits = c.requires; place = c.in-Ok.ensures.1 }

pub extend-requires-clause-allowed : goal.extend-requires-clause-allowed
extend-requires-clause-allowed g c = subst (λ (s : Stored). admits s.declared Extend c.args.key.now ≡ true) (sym c.in-Ok.ensures.2) c.in-Ok.ensures.0

pub returns-in-Ok : goal.returns-in-Ok
returns-in-Ok g c =
    subst (λ (s : Stored). Does (extend_act c.args.key.now c.args.threshold c.args.extend_to) c.extend.result s (stored_of c.extend.new.self)) (c.in-Ok.ensures.2 ∙ c.self.view_is) c.extend.ensures

pub returns-in-Err : goal.returns-in-Err
returns-in-Err g c =
    let ahead : nat_lt c.args.extend_to c.args.threshold ≡ false = search rules in
    subst (λ (s : Stored). Does (extend_act c.args.key.now c.args.threshold c.args.extend_to) (Err c.in-Err.e) s (stored_of c.slot_for.new.self)) c.self.view_is
    (extends_ahead c.args.key.now c.args.threshold c.args.extend_to (Err c.in-Err.e) (stored_of c.self.inside.entries) (stored_of c.slot_for.new.self) ahead
    (denied_does Extend c.args.key.now (extends c.args.key.now c.args.threshold c.args.extend_to) c.in-Err.e c.self.inside.entries c.slot_for.new.self c.in-Err.ensures))
