use Rattle.std.proofs.Common.{List, ◌||◌, sym, ap, ◌∙◌}
use Rattle.std.specs.Map.{keys_of}
use Rattle.std.specs.Str.{bytes_eq}
use Rattle.ledger_types.specs.KeyOrder.{ranked_key}
use Rattle.ledger_types.specs.declared.key.LedgerKey.{LedgerKey}
use Rattle.ledger_parts.specs.Shown.{is_read}
use Rattle.ledger_parts.proofs.Keys.{found_rank, read_inserted, read_already}
use Rattle.ledger_parts.proofs.key_set.KeySet.add.Goals as goal

pub returns-then-contains_key : goal.returns-then-contains_key
returns-then-contains_key c =
    λ q.
    read_already c.args.self.now c.args.key.now q
    (sym (found_rank c.args.key.now c.self.inside.keys.entries ∙ ap (λ (ks : List LedgerKey). is_read ks (ranked_key c.args.key.now)) c.self.view_is)
    ∙ sym c.contains_key.ensures ∙ c.if-contains_key.true)

pub returns : goal.returns
returns c =
    λ q.
    ap (λ es. is_read (keys_of es) q) c.in_ok-_old.ensures.entries
    ∙ read_inserted c.in_ok-key.key _ c.self.inside.keys.entries q
    ∙ ap (λ (ks : List LedgerKey). is_read ks q || bytes_eq q (ranked_key c.in_ok-key.key)) c.self.view_is
    ∙ ap (λ (k : LedgerKey). is_read c.args.self.now q || bytes_eq q (ranked_key k)) c.in_ok-key.ensures.cases
