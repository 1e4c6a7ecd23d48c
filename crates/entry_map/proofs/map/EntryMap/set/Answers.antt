use Rattle.std.proofs.Common.{◌∙◌, ℕ, List, sym, ap, subst}
use Rattle.std.specs.FinMap.{insert}
use Rattle.ledger_types.specs.KeyOrder.{ranked_key}
use Rattle.ledger_spec.specs.declared.Kept.{Kept}
use Rattle.ledger_spec.specs.LedgerMap.{LedgerMap, IsKeptAt, key_bytes}
use Rattle.entry_map.specs.Entries.{map_of}
use Rattle.entry_map.specs.Rows.{AreRows, rows_of, joined, IsFoundAt, IsGapAt}
use Rattle.entry_map.proofs.Places.{Row, Rows}
use Rattle.entry_map.proofs.MapLaws.{replace_rows, add_rows, same_key}
use Rattle.entry_map.proofs.map.EntryMap.set.Goals as goal

pub set_at-requires-clause-key : goal.set_at-requires-clause-key
set_at-requires-clause-key c d =
    let q : List ℕ = ranked_key c.args.key.now in
    let rows : Rows = rows_of c.self.inside.rows.items in
    let found : IsFoundAt q rows c.in-Ok.at = subst (λ (vs : List Row). IsFoundAt q (rows_of vs) c.in-Ok.at) c.deref.ensures.value c.in-Ok.ensures in
    same_key rows c.in-Ok.at c.args.key.now c.args.kept d c.self.invariant.entries found c.requires.fits c.requires.kept

pub invariant_of-self : goal.invariant_of-self
invariant_of-self c =
    let q : List ℕ = ranked_key c.args.key.now in
    let rows : Rows = rows_of c.self.inside.rows.items in
    let found : IsFoundAt q rows c.in-Ok.at = subst (λ (vs : List Row). IsFoundAt q (rows_of vs) c.in-Ok.at) c.deref.ensures.value c.in-Ok.ensures in
    (replace_rows rows (rows_of c.set_at.new.rows.items) c.in-Ok.at c.args.key.now c.args.kept c.self.inside.count c.self.invariant found c.requires.fits c.requires.kept
    c.set_at.ensures.new c.set_at.ensures.full).rows

pub returns-in-Ok-clause-ok : goal.returns-in-Ok-clause-ok
returns-in-Ok-clause-ok c =
    let q : List ℕ = ranked_key c.args.key.now in
    let rows : Rows = rows_of c.self.inside.rows.items in
    let found : IsFoundAt q rows c.in-Ok.at = subst (λ (vs : List Row). IsFoundAt q (rows_of vs) c.in-Ok.at) c.deref.ensures.value c.in-Ok.ensures in
    sym (replace_rows rows (rows_of c.set_at.new.rows.items) c.in-Ok.at c.args.key.now c.args.kept c.self.inside.count c.self.invariant found c.requires.fits c.requires.kept
    c.set_at.ensures.new c.set_at.ensures.full).map
    ∙ ap (λ (m : LedgerMap). insert m (key_bytes c.args.key.now) c.args.kept) c.self.view_is

pub invariant_of-self-in-Err : goal.invariant_of-self-in-Err
invariant_of-self-in-Err c =
    let q : List ℕ = ranked_key c.args.key.now in
    let rows : Rows = rows_of c.self.inside.rows.items in
    let gap : IsGapAt q rows c.in-Err.at = subst (λ (vs : List Row). IsGapAt q (rows_of vs) c.in-Err.at) c.deref.ensures.value c.in-Err.ensures in
    let stored = c.in_ok-stored-in-Err.stored in
    let kept : IsKeptAt (key_bytes c.args.key.now) stored.value.kept = subst (IsKeptAt (key_bytes c.args.key.now)) (sym c.in_ok-stored-in-Err.ensures) c.requires.kept in
    subst (AreRows (rows_of c.add_at.new.rows.items)) (sym c.in_ok-add_at-in-Err.ensures.counted)
    (add_rows rows (rows_of c.add_at.new.rows.items) c.in-Err.at c.args.key.now stored c.self.inside.count c.self.invariant gap c.requires.fits kept
    c.in_ok-add_at-in-Err.ensures.few c.in_ok-add_at-in-Err.ensures.ok c.in_ok-add_at-in-Err.ensures.full).rows

pub returns-in_ok-add_at-in-Err-clause-ok : goal.returns-in_ok-add_at-in-Err-clause-ok
returns-in_ok-add_at-in-Err-clause-ok c =
    let q : List ℕ = ranked_key c.args.key.now in
    let rows : Rows = rows_of c.self.inside.rows.items in
    let gap : IsGapAt q rows c.in-Err.at = subst (λ (vs : List Row). IsGapAt q (rows_of vs) c.in-Err.at) c.deref.ensures.value c.in-Err.ensures in
    let stored = c.in_ok-stored-in-Err.stored in
    let kept : IsKeptAt (key_bytes c.args.key.now) stored.value.kept = subst (IsKeptAt (key_bytes c.args.key.now)) (sym c.in_ok-stored-in-Err.ensures) c.requires.kept in
    sym (add_rows rows (rows_of c.add_at.new.rows.items) c.in-Err.at c.args.key.now stored c.self.inside.count c.self.invariant gap c.requires.fits kept
    c.in_ok-add_at-in-Err.ensures.few c.in_ok-add_at-in-Err.ensures.ok c.in_ok-add_at-in-Err.ensures.full).map
    ∙ ap (λ (v : Kept). insert (map_of (joined rows)) (key_bytes c.args.key.now) v) c.in_ok-stored-in-Err.ensures
    ∙ ap (λ (m : LedgerMap). insert m (key_bytes c.args.key.now) c.args.kept) c.self.view_is
