use Rattle.std.proofs.Common.{◌∙◌, ap, arith}
use Rattle.ledger_spec.specs.LedgerMap.{find}
use Rattle.contract_storage.specs.Listed.{Listed}
use Rattle.contract_storage.specs.Places.{place_in}
use Rattle.contract_storage.proofs.Tabling.{below_is, below_kept, place_index, slot_there}
use Rattle.contract_storage.proofs.table.Table.below.Goals as goal

pub index-requires : goal.index-requires
index-requires g c =
    omega (
      arith,
      place_index c.self.inside.slots.items c.args.spot.key.now c.args.spot.at (ap (λ (t : Listed). place_in c.args.spot.key.now t.keys) c.self.view_is ∙ c.requires.place),
      c.self.inside.slots.ok.0,
    )

pub returns-clause-found : goal.returns-clause-found
returns-clause-found g c =
    let k = c.args.spot.key.now in
    let place = ap (λ (t : Listed). place_in k t.keys) c.self.view_is ∙ c.requires.place in
    let there = slot_there _ c.self.inside.slots.items k c.args.spot.at c.index.result.now c.self.invariant.right c.requires.fits place c.index.ensures in
    below_is _ k c.index.result.now there ∙ ap (λ (t : Listed). find t.base k) c.self.view_is

pub returns-clause-kept : goal.returns-clause-kept
returns-clause-kept g c =
    let k = c.args.spot.key.now in
    let place = ap (λ (t : Listed). place_in k t.keys) c.self.view_is ∙ c.requires.place in
    below_kept _ k c.index.result.now (slot_there _ c.self.inside.slots.items k c.args.spot.at c.index.result.now c.self.invariant.right c.requires.fits place c.index.ensures)
