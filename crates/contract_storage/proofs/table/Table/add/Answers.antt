use Rattle.std.proofs.Common.{◌≡◌, ℕ, Bool, List, [], ◌∷◌, ◌++◌, length, Option, None, ap, refl, ◌∙◌, arith}
use Rattle.ledger_types.specs.declared.key.LedgerKey.{LedgerKey}
use Rattle.contract_storage.specs.Listed.{Listed}
use Rattle.contract_storage.specs.Places.{place_in}
use Rattle.contract_storage.specs.declared.table.Slot.{Slot}
use Rattle.contract_storage.proofs.Tabling.{added_code, keys_added, slot_made}
use Rattle.contract_storage.proofs.table.Table.add.Goals as goal

pub invariant_of-self-2 : goal.invariant_of-self-2
invariant_of-self-2 g c =
    let slots = c.self.inside.slots.items in
    let k = c.args.key.now in
    let slot : Slot = record { key = c.in_ok-again.again; writes = c.args.writes; below = c.find_below-below.result } in
    let count : c.len-number.result ≡ length slots = omega (arith, c.len-number.ensures, c.in_ok-reserve.ensures.len) in
    added_code _ c.self.inside.index.entries _ slots _ c.self.inside.marks.items _ c.self.inside.touches.items k c.in_ok-named.named slot c.len-number.result c.self.invariant
    (slot_made _ k c.in_ok-again.again c.args.writes c.find_below-below.result c.requires.fits c.in_ok-again.ensures.cases c.find_below-below.ensures.found c.find_below-below.ensures.kept)
    c.in_ok-again.ensures.cases c.in_ok-named.ensures.cases (ap (λ (t : Listed). place_in k t.keys) c.self.view_is ∙ c.requires.absent) count c.in_ok-_none.ensures.entries
    (c.in_ok-push.ensures.items ∙ ap (λ (xs : List Slot). xs ++ slot ∷ []) c.in_ok-reserve.ensures.items)
    (c.in_ok-push-2.ensures.items ∙ ap (λ (ms : List (Option ℕ)). ms ++ None ∷ []) c.in_ok-reserve-2.ensures.items)

pub returns-clause-ok : goal.returns-clause-ok
returns-clause-ok g c =
    let slots = c.self.inside.slots.items in
    let slot : Slot = record { key = c.in_ok-again.again; writes = c.args.writes; below = c.find_below-below.result } in
    c.know_wide.ensures
    ∙ ap (λ (ks : List (LedgerKey × Bool)). record { base = g.G.Ground.map c.self.inside.base.now; keys = ks; touches = c.self.inside.touches.items })
    (keys_added slots _ c.args.key.now c.args.writes slot c.in_ok-again.ensures.cases refl (c.in_ok-push.ensures.items ∙ ap (λ (xs : List Slot). xs ++ slot ∷ []) c.in_ok-reserve.ensures.items))
    ∙ ap (λ (t : Listed). record t { keys = t.keys ++ (c.args.key.now, c.args.writes) ∷ [] }) c.self.view_is
