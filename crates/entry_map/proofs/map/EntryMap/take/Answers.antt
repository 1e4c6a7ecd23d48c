use Rattle.std.proofs.Common.{◌∙◌, ℕ, List, Some, sym, ap, subst}
use Rattle.std.specs.FinMap.{get, remove}
use Rattle.ledger_types.specs.KeyOrder.{ranked_key}
use Rattle.ledger_spec.specs.LedgerMap.{LedgerMap, IsKeptAt, key_bytes}
use Rattle.entry_map.specs.Entries.{Boxed, kept_of}
use Rattle.entry_map.specs.Rows.{rows_of, IsFoundAt, IsGapAt}
use Rattle.entry_map.proofs.Places.{Row, Rows}
use Rattle.entry_map.proofs.MapLaws.{take_rows, taken_none, found_entry, found_none, kept_there, some_entry}
use Rattle.entry_map.proofs.map.EntryMap.take.Goals as goal

pub invariant_of-self : goal.invariant_of-self
invariant_of-self c =
    let q : List ℕ = ranked_key c.args.key.now in
    let rows : Rows = rows_of c.self.inside.rows.items in
    let found : IsFoundAt q rows c.in-Ok.at = subst (λ (vs : List Row). IsFoundAt q (rows_of vs) c.in-Ok.at) c.deref.ensures.value c.in-Ok.ensures in
    (take_rows rows (rows_of c.remove_at.new.rows.items) c.in-Ok.at c.args.key.now c.self.inside.count c.self.invariant found c.requires c.remove_at.ensures.left c.remove_at.ensures.full).rows

pub returns-in-Ok-clause-taken : goal.returns-in-Ok-clause-taken
returns-in-Ok-clause-taken c =
    let q : List ℕ = ranked_key c.args.key.now in
    let rows : Rows = rows_of c.self.inside.rows.items in
    let found : IsFoundAt q rows c.in-Ok.at = subst (λ (vs : List Row). IsFoundAt q (rows_of vs) c.in-Ok.at) c.deref.ensures.value c.in-Ok.ensures in
    let d : Boxed = some_entry q rows c.in-Ok.at found in
    ap (λ (b : Boxed). Some (kept_of b)) (c.remove_at.ensures.entry d)
    ∙ found_entry rows c.in-Ok.at c.args.key.now d c.self.invariant.entries found c.requires
    ∙ ap (λ (m : LedgerMap). get m (key_bytes c.args.key.now)) c.self.view_is

pub returns-in-Ok-clause-left : goal.returns-in-Ok-clause-left
returns-in-Ok-clause-left c =
    let q : List ℕ = ranked_key c.args.key.now in
    let rows : Rows = rows_of c.self.inside.rows.items in
    let found : IsFoundAt q rows c.in-Ok.at = subst (λ (vs : List Row). IsFoundAt q (rows_of vs) c.in-Ok.at) c.deref.ensures.value c.in-Ok.ensures in
    sym (take_rows rows (rows_of c.remove_at.new.rows.items) c.in-Ok.at c.args.key.now c.self.inside.count c.self.invariant found c.requires c.remove_at.ensures.left c.remove_at.ensures.full).map
    ∙ ap (λ (m : LedgerMap). remove m (key_bytes c.args.key.now)) c.self.view_is

pub returns-in-Ok-clause-kept : goal.returns-in-Ok-clause-kept
returns-in-Ok-clause-kept c =
    let q : List ℕ = ranked_key c.args.key.now in
    let rows : Rows = rows_of c.self.inside.rows.items in
    let found : IsFoundAt q rows c.in-Ok.at = subst (λ (vs : List Row). IsFoundAt q (rows_of vs) c.in-Ok.at) c.deref.ensures.value c.in-Ok.ensures in
    let d : Boxed = some_entry q rows c.in-Ok.at found in
    subst (λ (b : Boxed). IsKeptAt (key_bytes c.args.key.now) (kept_of b)) (sym (c.remove_at.ensures.entry d))
    (kept_there rows c.in-Ok.at c.args.key.now d c.self.invariant.entries found c.requires)

pub returns-in-Err-clause-taken : goal.returns-in-Err-clause-taken
returns-in-Err-clause-taken c =
    let q : List ℕ = ranked_key c.args.key.now in
    let rows : Rows = rows_of c.self.inside.rows.items in
    let gap : IsGapAt q rows c.in-Err.field-0 = subst (λ (vs : List Row). IsGapAt q (rows_of vs) c.in-Err.field-0) c.deref.ensures.value c.in-Err.ensures in
    found_none rows c.in-Err.field-0 c.args.key.now c.self.invariant.entries gap c.requires
    ∙ ap (λ (m : LedgerMap). get m (key_bytes c.args.key.now)) c.self.view_is

pub returns-in-Err-clause-left : goal.returns-in-Err-clause-left
returns-in-Err-clause-left c =
    let q : List ℕ = ranked_key c.args.key.now in
    let rows : Rows = rows_of c.self.inside.rows.items in
    let gap : IsGapAt q rows c.in-Err.field-0 = subst (λ (vs : List Row). IsGapAt q (rows_of vs) c.in-Err.field-0) c.deref.ensures.value c.in-Err.ensures in
    sym c.self.view_is ∙ taken_none rows c.in-Err.field-0 c.args.key.now c.self.invariant.entries gap c.requires
    ∙ ap (λ (m : LedgerMap). remove m (key_bytes c.args.key.now)) c.self.view_is
