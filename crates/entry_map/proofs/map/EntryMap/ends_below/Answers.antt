use Rattle.std.proofs.Common.{◌≡◌, ◌-◌, ◌∙◌, [], ℕ, List, length, sym, ap}
use Rattle.std.specs.FinMap.{entries}
use Rattle.ledger_types.specs.KeyOrder.{ranked_key}
use Rattle.ledger_spec.specs.LedgerMap.{LedgerMap, key_bytes}
use Rattle.ledger_spec.specs.LedgerFile.{is_above}
use Rattle.entry_map.specs.Entries.{last_key, pairs_of}
use Rattle.entry_map.specs.Rows.{rows_of, joined}
use Rattle.entry_map.proofs.Sorted.{Pair}
use Rattle.entry_map.proofs.Places.{Row}
use Rattle.std.specs.Prelude.{slice_get}
use Rattle.ledger_types.proofs.Lemmas.{key_ranked}
use Rattle.entry_map.specs.Rows.{ends_below}
use Rattle.entry_map.proofs.MapLaws.{entries_of, last_row, none_last}
use Rattle.entry_map.proofs.map.EntryMap.ends_below.Goals as goal

pub returns-in-Some : goal.returns-in-Some
returns-in-Some c =
    let q : List ℕ = ranked_key c.args.key.now in
    let vs : List Row = c.self.inside.rows.items in
    c.ends_below.ensures
    ∙ ap (ends_below q) c.deref-in-Some.ensures.value
    ∙ last_row q vs c.in-Some.row.now
    (ap (λ (ws : List Row). slice_get ws (length ws - 1)) (sym c.deref.ensures.value) ∙ sym c.in-Some.ensures.value) c.self.invariant.full
    ∙ ap (λ (ps : List Pair). is_above (last_key ps) q) (sym (entries_of (pairs_of (joined (rows_of vs))) c.self.invariant.entries.sorted) ∙ ap (λ (m : LedgerMap). entries m) c.self.view_is)
    ∙ ap (is_above (last_key (entries c.args.self.now))) (key_ranked c.args.key.now c.requires)

pub returns-in-None : goal.returns-in-None
returns-in-None c =
    let vs : List Row = c.self.inside.rows.items in
    let none : vs ≡ [] = none_last vs (ap (λ (ws : List Row). slice_get ws (length ws - 1)) (sym c.deref.ensures.value) ∙ sym c.in-None.ensures.value) in
    ap (λ (ws : List Row). is_above (last_key (pairs_of (joined (rows_of ws)))) (key_bytes c.args.key.now)) (sym none)
    ∙ ap (λ (ps : List Pair). is_above (last_key ps) (key_bytes c.args.key.now))
    (sym (entries_of (pairs_of (joined (rows_of vs))) c.self.invariant.entries.sorted) ∙ ap (λ (m : LedgerMap). entries m) c.self.view_is)
