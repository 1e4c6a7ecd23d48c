use Rattle.std.specs.Prelude.{◌||◌, not, slice_get}
use Rattle.std.specs.Option.{option_map}
use Rattle.std.proofs.Common.{◌≡◌, ◌∙◌, Bool, Some, ap, sym, subst, refl}
use Rattle.ledger_types.specs.declared.key.LedgerKey.{LedgerKey}
use Rattle.contract_storage.specs.Slotted.{Slotted, stored_of}
use Rattle.contract_storage.specs.Touched.{admits}
use Rattle.contract_storage.specs.declared.access.Access.{Access}
use Rattle.contract_storage.specs.declared.access.Access.TheVariants.{Write}
use Rattle.contract_storage.proofs.Slotting.{slot_may_extend, slot_may_read, slot_may_write}
use Rattle.contract_storage.proofs.entries.Entries.allows.Goals as goal

-- a write is allowed as its slot's flag says
writes : (s : Slotted) (access : Access) (key : LedgerKey) (w b : Bool) → access ≡ Write → (w || not s.enforces) ≡ admits (stored_of s).declared Write key → b ≡ (w || not s.enforces) → b ≡ admits (stored_of s).declared access key
writes s access key w b is may e = e ∙ may ∙ ap (λ (a : Access). admits (stored_of s).declared a key) (sym is)

pub returns-then-writes : goal.returns-then-writes
returns-then-writes g c = λ key place.
    let flag = subst (λ (s : Slotted). option_map (λ (k : LedgerKey × Bool). k.1) (slice_get s.layer.keys c.args.at) ≡ Some c.writes-writes.result) c.self.view_is c.writes-writes.ensures in
    writes c.args.self.now c.args.access key c.writes-writes.result c.writes-writes.result c.in-Write.is
    (slot_may_write c.args.self.now key c.args.at c.writes-writes.result place flag)
    (subst (λ (w : Bool). w ≡ (w || not c.args.self.now.enforces)) (sym c.if-writes.true) refl)

pub returns-else-writes : goal.returns-else-writes
returns-else-writes g c = λ key place.
    let flag = subst (λ (s : Slotted). option_map (λ (k : LedgerKey × Bool). k.1) (slice_get s.layer.keys c.args.at) ≡ Some c.writes-writes.result) c.self.view_is c.writes-writes.ensures in
    writes c.args.self.now c.args.access key c.writes-writes.result (not c.self.inside.enforces) c.in-Write.is
    (slot_may_write c.args.self.now key c.args.at c.writes-writes.result place flag)
    (ap (λ (s : Slotted). not s.enforces) c.self.view_is ∙ subst (λ (w : Bool). not c.args.self.now.enforces ≡ (w || not c.args.self.now.enforces)) (sym c.if-writes.false) refl)

pub returns-in-Read : goal.returns-in-Read
returns-in-Read g c = λ key place.
    sym (slot_may_read c.args.self.now key c.args.at place) ∙ ap (λ (a : Access). admits (stored_of c.args.self.now).declared a key) (sym c.in-Read.is)

pub returns-in-Extend : goal.returns-in-Extend
returns-in-Extend g c = λ key place.
    sym (slot_may_extend c.args.self.now key c.args.at place) ∙ ap (λ (a : Access). admits (stored_of c.args.self.now).declared a key) (sym c.in-Extend.is)
