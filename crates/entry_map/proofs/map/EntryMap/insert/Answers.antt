use Rattle.std.proofs.Common.{◌∙◌, ℕ, List, Some, sym, ap, subst}
use Rattle.std.specs.FinMap.{get, insert}
use Rattle.ledger_types.specs.KeyOrder.{ranked_key}
use Rattle.ledger_spec.specs.LedgerMap.{LedgerMap, key_bytes}
use Rattle.entry_map.specs.Entries.{Boxed, kept_of}
use Rattle.entry_map.specs.Rows.{AreRows, rows_of, IsFoundAt, IsGapAt}
use Rattle.entry_map.proofs.Places.{Row, Rows, on_err}
use Rattle.entry_map.proofs.MapLaws.{replace_rows, add_rows, found_entry, found_none, some_entry}
use Rattle.entry_map.proofs.map.EntryMap.insert.Goals as goal

pub invariant_of-self : goal.invariant_of-self
invariant_of-self c =
    let q : List ℕ = ranked_key c.args.key.now in
    let rows : Rows = rows_of c.self.inside.rows.items in
    let found : IsFoundAt q rows c.in-Ok.at = subst (λ (vs : List Row). IsFoundAt q (rows_of vs) c.in-Ok.at) c.deref.ensures.value c.in-Ok.ensures in
    (replace_rows rows (rows_of c.replace_at.new.rows.items) c.in-Ok.at c.args.key.now c.args.stored.value.kept c.self.inside.count c.self.invariant found c.requires.fits c.requires.kept
    c.replace_at.ensures.new c.replace_at.ensures.full).rows

pub returns-in-Ok-clause-old : goal.returns-in-Ok-clause-old
returns-in-Ok-clause-old c =
    let q : List ℕ = ranked_key c.args.key.now in
    let rows : Rows = rows_of c.self.inside.rows.items in
    let found : IsFoundAt q rows c.in-Ok.at = subst (λ (vs : List Row). IsFoundAt q (rows_of vs) c.in-Ok.at) c.deref.ensures.value c.in-Ok.ensures in
    let d : Boxed = some_entry q rows c.in-Ok.at found in
    ap (λ (b : Boxed). Some (kept_of b)) (c.replace_at.ensures.entry d)
    ∙ found_entry rows c.in-Ok.at c.args.key.now d c.self.invariant.entries found c.requires.fits
    ∙ ap (λ (m : LedgerMap). get m (key_bytes c.args.key.now)) c.self.view_is

pub returns-in-Ok-clause-ok : goal.returns-in-Ok-clause-ok
returns-in-Ok-clause-ok c =
    let q : List ℕ = ranked_key c.args.key.now in
    let rows : Rows = rows_of c.self.inside.rows.items in
    let found : IsFoundAt q rows c.in-Ok.at = subst (λ (vs : List Row). IsFoundAt q (rows_of vs) c.in-Ok.at) c.deref.ensures.value c.in-Ok.ensures in
    sym (replace_rows rows (rows_of c.replace_at.new.rows.items) c.in-Ok.at c.args.key.now c.args.stored.value.kept c.self.inside.count c.self.invariant found c.requires.fits c.requires.kept
    c.replace_at.ensures.new c.replace_at.ensures.full).map
    ∙ ap (λ (m : LedgerMap). insert m (key_bytes c.args.key.now) c.args.stored.value.kept) c.self.view_is

pub returns-in_err-add_at-in-Err-clause-absent : goal.returns-in_err-add_at-in-Err-clause-absent
returns-in_err-add_at-in-Err-clause-absent c =
    let q : List ℕ = ranked_key c.args.key.now in
    let rows : Rows = rows_of c.self.inside.rows.items in
    let gap : IsGapAt q rows c.in-Err.at = subst (λ (vs : List Row). IsGapAt q (rows_of vs) c.in-Err.at) c.deref.ensures.value c.in-Err.ensures in
    on_err _ _
    (ap (λ (m : LedgerMap). get m (key_bytes c.args.key.now)) (sym c.self.view_is) ∙ sym (found_none rows c.in-Err.at c.args.key.now c.self.invariant.entries gap c.requires.fits))

pub invariant_of-self-in-Err : goal.invariant_of-self-in-Err
invariant_of-self-in-Err c =
    let q : List ℕ = ranked_key c.args.key.now in
    let rows : Rows = rows_of c.self.inside.rows.items in
    let gap : IsGapAt q rows c.in-Err.at = subst (λ (vs : List Row). IsGapAt q (rows_of vs) c.in-Err.at) c.deref.ensures.value c.in-Err.ensures in
    subst (AreRows (rows_of c.add_at.new.rows.items)) (sym c.in_ok-add_at-in-Err.ensures.counted)
    (add_rows rows (rows_of c.add_at.new.rows.items) c.in-Err.at c.args.key.now c.args.stored c.self.inside.count c.self.invariant gap c.requires.fits c.requires.kept
    c.in_ok-add_at-in-Err.ensures.few c.in_ok-add_at-in-Err.ensures.ok c.in_ok-add_at-in-Err.ensures.full).rows

pub returns-in_ok-add_at-in-Err-clause-old : goal.returns-in_ok-add_at-in-Err-clause-old
returns-in_ok-add_at-in-Err-clause-old c =
    let q : List ℕ = ranked_key c.args.key.now in
    let rows : Rows = rows_of c.self.inside.rows.items in
    let gap : IsGapAt q rows c.in-Err.at = subst (λ (vs : List Row). IsGapAt q (rows_of vs) c.in-Err.at) c.deref.ensures.value c.in-Err.ensures in
    found_none rows c.in-Err.at c.args.key.now c.self.invariant.entries gap c.requires.fits ∙ ap (λ (m : LedgerMap). get m (key_bytes c.args.key.now)) c.self.view_is

pub returns-in_ok-add_at-in-Err-clause-ok : goal.returns-in_ok-add_at-in-Err-clause-ok
returns-in_ok-add_at-in-Err-clause-ok c =
    let q : List ℕ = ranked_key c.args.key.now in
    let rows : Rows = rows_of c.self.inside.rows.items in
    let gap : IsGapAt q rows c.in-Err.at = subst (λ (vs : List Row). IsGapAt q (rows_of vs) c.in-Err.at) c.deref.ensures.value c.in-Err.ensures in
    sym (add_rows rows (rows_of c.add_at.new.rows.items) c.in-Err.at c.args.key.now c.args.stored c.self.inside.count c.self.invariant gap c.requires.fits c.requires.kept
    c.in_ok-add_at-in-Err.ensures.few c.in_ok-add_at-in-Err.ensures.ok c.in_ok-add_at-in-Err.ensures.full).map
    ∙ ap (λ (m : LedgerMap). insert m (key_bytes c.args.key.now) c.args.stored.value.kept) c.self.view_is
