use Rattle.std.proofs.Common.{sym, ◌∙◌}
use Rattle.ledger_spec.specs.LedgerMap.{key_bytes}
use Rattle.ledger_parts.specs.Sees.{lent_at}
use Rattle.ledger_parts.specs.Shown.{is_read}
use Rattle.ledger_parts.proofs.Under.{lent_kept}
use Rattle.ledger_parts.proofs.entries.OnPartEntries.find_lent.Goals as goal

pub returns-clause-found : goal.returns-clause-found
returns-clause-found c =
    let seen = c.args.self.now in
    c.lent_at.ensures ∙ sym (lent_at seen.part.read_only seen.lent.now (key_bytes c.args.key.now))

pub returns-clause-kept : goal.returns-clause-kept
returns-clause-kept c =
    let seen = c.args.self.now in
    let q = key_bytes c.args.key.now in
    lent_kept (is_read seen.part.read_only q) seen.lent.now q c.lent_at.result c.len-count.ensures.map c.lent_at.ensures
