use Rattle.std.proofs.Common.{◌∙◌, List, sym, ap, subst}
use Rattle.std.specs.FinMap.{len}
use Rattle.ledger_spec.specs.LedgerMap.{LedgerMap, IsLedgerMap}
use Rattle.entry_map.specs.Entries.{Boxed, pairs_of}
use Rattle.entry_map.specs.Rows.{rows_of, joined}
use Rattle.entry_map.proofs.MapLaws.{length_pairs, len_of, ledger_map}
use Rattle.entry_map.proofs.map.EntryMap.len.Goals as goal

pub returns-clause-len : goal.returns-clause-len
returns-clause-len c =
    let es : List Boxed = joined (rows_of c.self.inside.rows.items) in
    c.self.invariant.counted ∙ sym (length_pairs es) ∙ sym (len_of (pairs_of es) c.self.invariant.entries.sorted) ∙ ap (λ (m : LedgerMap). len m) c.self.view_is

pub returns-clause-map : goal.returns-clause-map
returns-clause-map c = subst IsLedgerMap c.self.view_is (ledger_map (pairs_of (joined (rows_of c.self.inside.rows.items))) c.self.invariant.entries)
