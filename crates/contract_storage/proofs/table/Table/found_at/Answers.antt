use Rattle.std.proofs.Common.{◌<◌, length, ap, ◌∙◌, arith}
use Rattle.contract_storage.specs.Listed.{Listed}
use Rattle.contract_storage.specs.Places.{place_in}
use Rattle.contract_storage.proofs.Tabling.{slot_is}
use Rattle.contract_storage.proofs.table.Table.found_at.Goals as goal

pub returns-then-are_same : goal.returns-then-are_same
returns-then-are_same g c =
    let w : c.args.at < length c.self.inside.slots.items = omega arith in
    slot_is c.self.inside.slots.items c.args.at c.index.result.now c.args.key.now c.self.invariant.apart w c.index.ensures (c.are_same.ensures c.if-are_same.true)
    ∙ ap (λ (t : Listed). place_in c.args.key.now t.keys) c.self.view_is
