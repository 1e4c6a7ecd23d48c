use Rattle.std.proofs.Common.{◌≡◌, ◌+◌, ◌∙◌, ◌++◌, ◌∷◌, [], List, true, length, sym, ap, subst, arith}
use Rattle.std.specs.FinMap.{entries}
use Rattle.ledger_spec.specs.LedgerMap.{LedgerMap}
use Rattle.entry_map.specs.Entries.{Boxed, own_bytes, pair_of, pairs_of, is_last}
use Rattle.entry_map.specs.Rows.{rows_of, joined}
use Rattle.entry_map.proofs.Sorted.{Pair}
use Rattle.entry_map.proofs.Places.{Rows}
use Rattle.std.proofs.lemmas.List.{length-append}
use Rattle.entry_map.proofs.MapLaws.{pushed, rows_after, length_pairs}
use Rattle.entry_map.proofs.map.EntryMap.push.Goals as goal

pub invariant_of-self-2 : goal.invariant_of-self-2
invariant_of-self-2 c =
    let es : List Boxed = joined (rows_of c.self.inside.rows.items) in
    let rows : Rows = rows_of c.push_last.new.rows.items in
    let last = subst (λ (m : LedgerMap). is_last m (own_bytes c.args.stored) ≡ true) (sym c.self.view_is) c.requires.last in
    let p = pushed (pairs_of es) (pairs_of (joined rows)) c.args.stored c.self.invariant.entries last c.requires.kept c.in_ok-push_last.ensures.ok in
    rows_after rows (c.self.inside.count + 1) p.sorted p.each c.in_ok-push_last.ensures.full
    (omega (arith, c.self.invariant.counted, length_pairs (joined rows), length_pairs es, ap (λ (ps : List Pair). length ps) c.in_ok-push_last.ensures.ok, length-append (pairs_of es) (pair_of c.args.stored ∷ [])))
    (omega (arith, c.if-self-ge-MOST_ENTRIES.false))

pub returns-clause-ok : goal.returns-clause-ok
returns-clause-ok c =
    let es : List Boxed = joined (rows_of c.self.inside.rows.items) in
    let rows : Rows = rows_of c.push_last.new.rows.items in
    let last = subst (λ (m : LedgerMap). is_last m (own_bytes c.args.stored) ≡ true) (sym c.self.view_is) c.requires.last in
    let p = pushed (pairs_of es) (pairs_of (joined rows)) c.args.stored c.self.invariant.entries last c.requires.kept c.in_ok-push_last.ensures.ok in
    p.entries-are ∙ ap (λ (m : LedgerMap). entries m ++ (own_bytes c.args.stored, c.args.stored.value.kept) ∷ []) c.self.view_is
