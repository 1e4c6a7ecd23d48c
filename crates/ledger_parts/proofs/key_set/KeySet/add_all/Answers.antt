use Rattle.std.proofs.Common.{◌≡◌, ◌+◌, ◌++◌, ◌∷◌, ◌||◌, [], List, take, sym, ap, ◌∙◌}
use Rattle.std.specs.Str.{bytes_eq}
use Rattle.ledger_types.specs.KeyOrder.{ranked_key}
use Rattle.ledger_types.specs.declared.key.LedgerKey.{LedgerKey}
use Rattle.ledger_parts.specs.Shown.{is_read}
use Rattle.ledger_parts.proofs.Keys.{read_more}
use Rattle.ledger_parts.proofs.Lists.{take_one_more}
use Rattle.ledger_parts.proofs.key_set.KeySet.add_all.Goals as goal

pub loop-key-preserved : goal.loop-key-preserved
loop-key-preserved c =
    let item = c.key-item.result in
    let i = c.loop-key.key-index in
    let keys = take i c.args.keys.now in
    let more : take (i + 1) c.args.keys.now ≡ keys ++ item ∷ [] = take_one_more c.args.keys.now i item c.loop-key-test.true c.key-item.is in
    λ q.
    c.in_ok-add.ensures q
    ∙ ap (λ a. a || bytes_eq q (ranked_key item)) (c.loop-key.invariant q)
    ∙ read_more keys item (is_read c.args.self.now q) q
    ∙ ap (λ (ks : List LedgerKey). is_read c.args.self.now q || is_read ks q) (sym more)
