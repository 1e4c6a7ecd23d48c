use Rattle.std.proofs.Common.{List, ap, ◌∙◌}
use Rattle.ledger_types.specs.declared.key.LedgerKey.{LedgerKey}
use Rattle.ledger_spec.specs.LedgerMap.{key_bytes}
use Rattle.ledger_parts.specs.Shown.{is_read}
use Rattle.ledger_parts.proofs.Keys.{found_read}
use Rattle.ledger_parts.proofs.key_set.KeySet.has.Goals as goal

pub returns : goal.returns
returns c =
    c.contains_key.ensures ∙ found_read c.args.key.now c.self.inside.keys.entries c.requires
    ∙ ap (λ (ks : List LedgerKey). is_read ks (key_bytes c.args.key.now)) c.self.view_is
