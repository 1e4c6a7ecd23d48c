use Rattle.std.specs.Map.{lookup}
use Rattle.std.specs.BTreeMap.{is_at}
use Rattle.std.proofs.Common.{◌≡◌, ap, ◌∙◌, rules}
use Rattle.ledger_types.specs.KeyOrder.{ranked_key, key_cmp}
use Rattle.contract_storage.specs.Listed.{Listed}
use Rattle.contract_storage.specs.Places.{place_in}
use Rattle.contract_storage.proofs.Laying.{at_lookup}
use Rattle.contract_storage.proofs.table.Table.find.Goals as goal

pub returns-in-None : goal.returns-in-None
returns-in-None g c =
    let e : c.copied.result ≡ lookup (is_at (key_cmp c.args.key.now)) c.self.inside.index.entries = search rules in
    e ∙ at_lookup c.args.key.now c.self.inside.index.entries ∙ c.self.invariant.places (ranked_key c.args.key.now)
    ∙ ap (λ (t : Listed). place_in c.args.key.now t.keys) c.self.view_is
