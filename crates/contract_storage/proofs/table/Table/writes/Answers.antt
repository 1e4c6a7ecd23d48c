use Rattle.std.specs.Prelude.{slice_get}
use Rattle.std.specs.Option.{option_map}
use Rattle.std.proofs.Common.{◌<◌, Bool, length, ◌∙◌, ap, sym, subst, arith}
use Rattle.ledger_types.specs.declared.key.LedgerKey.{LedgerKey}
use Rattle.contract_storage.specs.Listed.{Listed}
use Rattle.contract_storage.proofs.Tabling.{slot_index, writes_is}
use Rattle.contract_storage.proofs.table.Table.writes.Goals as goal

pub index-requires : goal.index-requires
index-requires g c =
    omega (
      arith,
      slot_index c.self.inside.slots.items c.args.at (subst (λ (t : Listed). c.args.at < length t.keys) (sym c.self.view_is) c.requires),
      c.self.inside.slots.ok.0,
    )

pub returns : goal.returns
returns g c =
    sym (ap (λ (t : Listed). option_map (λ (k : LedgerKey × Bool). k.1) (slice_get t.keys c.args.at)) c.self.view_is)
    ∙ writes_is c.self.inside.slots.items c.args.at c.index.result.now (subst (λ (t : Listed). c.args.at < length t.keys) (sym c.self.view_is) c.requires) c.index.ensures
