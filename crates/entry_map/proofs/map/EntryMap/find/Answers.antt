use Rattle.std.proofs.Common.{◌∙◌, [], ℕ, List, Some, get_or, ap, subst}
use Rattle.std.specs.FinMap.{get}
use Rattle.ledger_types.specs.KeyOrder.{ranked_key}
use Rattle.ledger_spec.specs.LedgerMap.{LedgerMap, IsLedgerMap, key_bytes}
use Rattle.entry_map.specs.declared.stored.StoredEntry.{StoredEntry}
use Rattle.entry_map.specs.Entries.{Boxed, pairs_of}
use Rattle.entry_map.specs.Rows.{rows_of, joined, IsFoundAt, IsGapAt}
use Rattle.entry_map.proofs.Places.{Row, Rows}
use Rattle.entry_map.proofs.MapLaws.{found_entry, found_none, some_entry, ledger_map}
use Rattle.entry_map.proofs.map.EntryMap.find.Goals as goal

pub returns-in-Ok-clause-found : goal.returns-in-Ok-clause-found
returns-in-Ok-clause-found c =
    let q : List ℕ = ranked_key c.args.key.now in
    let rows : Rows = rows_of c.self.inside.rows.items in
    let found : IsFoundAt q rows c.in-Ok.at = subst (λ (vs : List Row). IsFoundAt q (rows_of vs) c.in-Ok.at) c.deref.ensures.value c.in-Ok.ensures in
    let d : Boxed = some_entry q rows c.in-Ok.at found in
    ap (λ (s : StoredEntry). Some s.kept)
    (c.entry_at.ensures d ∙ ap (λ (vs : List Row). (get_or (get_or (rows_of vs) c.in-Ok.at.row []) c.in-Ok.at.index d).value) c.deref-in-Ok.ensures.value)
    ∙ found_entry rows c.in-Ok.at c.args.key.now d c.self.invariant.entries found c.requires
    ∙ ap (λ (m : LedgerMap). get m (key_bytes c.args.key.now)) c.self.view_is

pub returns-in-Ok-clause-map : goal.returns-in-Ok-clause-map
returns-in-Ok-clause-map c = subst IsLedgerMap c.self.view_is (ledger_map (pairs_of (joined (rows_of c.self.inside.rows.items))) c.self.invariant.entries)

pub returns-in-Err-clause-found : goal.returns-in-Err-clause-found
returns-in-Err-clause-found c =
    let q : List ℕ = ranked_key c.args.key.now in
    let rows : Rows = rows_of c.self.inside.rows.items in
    let gap : IsGapAt q rows c.in-Err.field-0 = subst (λ (vs : List Row). IsGapAt q (rows_of vs) c.in-Err.field-0) c.deref.ensures.value c.in-Err.ensures in
    found_none rows c.in-Err.field-0 c.args.key.now c.self.invariant.entries gap c.requires
    ∙ ap (λ (m : LedgerMap). get m (key_bytes c.args.key.now)) c.self.view_is

pub returns-in-Err-clause-map : goal.returns-in-Err-clause-map
returns-in-Err-clause-map c = subst IsLedgerMap c.self.view_is (ledger_map (pairs_of (joined (rows_of c.self.inside.rows.items))) c.self.invariant.entries)
