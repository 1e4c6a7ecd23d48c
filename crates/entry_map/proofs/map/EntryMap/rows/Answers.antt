use Rattle.std.proofs.Common.{◌∙◌, List, sym, ap, subst}
use Rattle.std.specs.FinMap.{entries}
use Rattle.ledger_spec.specs.LedgerMap.{LedgerMap, IsLedgerMap}
use Rattle.entry_map.specs.Entries.{pairs_of}
use Rattle.entry_map.specs.Rows.{rows_of, joined}
use Rattle.entry_map.proofs.Places.{Row}
use Rattle.entry_map.proofs.MapLaws.{entries_of, ledger_map}
use Rattle.entry_map.proofs.map.EntryMap.rows.Goals as goal

pub returns-clause-entries : goal.returns-clause-entries
returns-clause-entries c =
    ap (λ (vs : List Row). pairs_of (joined (rows_of vs))) c.deref.ensures.value
    ∙ sym (entries_of (pairs_of (joined (rows_of c.self.inside.rows.items))) c.self.invariant.entries.sorted)
    ∙ ap (λ (m : LedgerMap). entries m) c.self.view_is

pub returns-clause-map : goal.returns-clause-map
returns-clause-map c = subst IsLedgerMap c.self.view_is (ledger_map (pairs_of (joined (rows_of c.self.inside.rows.items))) c.self.invariant.entries)
