use Rattle.std.proofs.Common.{◌≡◌, true, false, sym, ap, ◌∙◌, rules}
use Rattle.ledger_types.specs.KeyOrder.{ranked_key}
use Rattle.contract_storage.specs.Places.{place_in}
use Rattle.contract_storage.specs.Slotted.{Slotted}
use Rattle.contract_storage.proofs.Placing.{within}
use Rattle.contract_storage.proofs.Slotting.{denied_slot, found_slot}
use Rattle.contract_storage.proofs.entries.Entries.slot_for.Goals as goal

pub allows-requires : goal.allows-requires
allows-requires g c =
    within (ranked_key c.args.key.now) c.args.self.now.layer.keys c.in-Some.at (ap (λ (s : Slotted). place_in c.args.key.now s.layer.keys) (sym c.self.view_is) ∙ sym c.in-Some.ensures)

pub returns-then-allows : goal.returns-then-allows
returns-then-allows g c =
    let place = ap (λ (s : Slotted). place_in c.args.key.now s.layer.keys) (sym c.self.view_is) ∙ sym c.in-Some.ensures in
    let allowed : c.allows.result ≡ true = search rules in
    found_slot c.args.self.now c.args.access c.args.key.now c.in-Some.at c.allows.result place (c.allows.ensures c.args.key.now place) allowed

pub returns-else-allows : goal.returns-else-allows
returns-else-allows g c =
    let place = ap (λ (s : Slotted). place_in c.args.key.now s.layer.keys) (sym c.self.view_is) ∙ sym c.in-Some.ensures in
    let denied : c.allows.result ≡ false = search rules in
    denied_slot c.args.self.now c.args.access c.args.key.now c.allows.result (c.allows.ensures c.args.key.now place) denied

pub new_slot-requires-clause-absent : goal.new_slot-requires-clause-absent
new_slot-requires-clause-absent g c = ap (λ (s : Slotted). place_in c.args.key.now s.layer.keys) (sym c.self.view_is) ∙ sym c.in-None.ensures

pub returns-in-None : goal.returns-in-None
returns-in-None g c = c.new_slot.ensures c.args.access
