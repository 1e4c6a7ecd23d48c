use Rattle.std.proofs.Common.{sym}
use Rattle.spelled_order.proofs.Lemmas.{whole}
use Rattle.ledger_types.specs.Entry.{key_of}
use Rattle.ledger_types.specs.KeyOrder.{ranked_key}
use Rattle.entry_map.proofs.order.cmp_entry.Goals as goal

pub returns : goal.returns
returns c = sym (whole (ranked_key (key_of c.args.entry.now)) (ranked_key c.args.key.now) c.cmp_ranked.result c.cmp_ranked.ensures)
