use Rattle.std.proofs.Common.{◌∙◌, ap, sym}
use Rattle.std.specs.Ordering.{is_lt}
use Rattle.ledger_types.specs.Entry.{key_of}
use Rattle.ledger_types.specs.KeyOrder.{ranked_key, key_cmp}
use Rattle.entry_map.specs.declared.stored.StoredEntry.{StoredEntry}
use Rattle.entry_map.proofs.Search.{last_below}
use Rattle.entry_map.proofs.rows.ends_below.Goals as goal

pub returns-in-Some : goal.returns-in-Some
returns-in-Some c =
    c.is_lt.ensures ∙ ap is_lt c.cmp_entry.ensures ∙ ap (λ (s : StoredEntry). is_lt (key_cmp (key_of s.kept.entry) c.args.key.now)) c.deref.ensures
    ∙ last_below (ranked_key c.args.key.now) c.args.row.now c.in-Some.stored.now (sym c.in-Some.ensures.value)
