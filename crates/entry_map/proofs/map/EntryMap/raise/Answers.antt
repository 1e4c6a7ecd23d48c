use Rattle.std.proofs.Common.{◌∙◌, ℕ, List, sym, ap, subst}
use Rattle.ledger_types.specs.KeyOrder.{ranked_key}
use Rattle.ledger_spec.specs.LedgerMap.{LedgerMap}
use Rattle.ledger_spec.specs.Changes.{raise}
use Rattle.entry_map.specs.Rows.{rows_of, IsFoundAt, IsGapAt}
use Rattle.entry_map.proofs.Places.{Row, Rows}
use Rattle.entry_map.proofs.MapLaws.{raise_rows, raise_none}
use Rattle.entry_map.proofs.map.EntryMap.raise.Goals as goal

pub invariant_of-self : goal.invariant_of-self
invariant_of-self c =
    let q : List ℕ = ranked_key c.args.key.now in
    let rows : Rows = rows_of c.self.inside.rows.items in
    let found : IsFoundAt q rows c.in-Ok.at = subst (λ (vs : List Row). IsFoundAt q (rows_of vs) c.in-Ok.at) c.deref.ensures.value c.in-Ok.ensures in
    (raise_rows rows (rows_of c.raise_at.new.rows.items) c.in-Ok.at c.args.key.now c.args.live_until c.self.inside.count c.self.invariant found c.requires c.ranges.live_until.fits
    c.raise_at.ensures.new c.raise_at.ensures.full).rows

pub returns-in-Ok : goal.returns-in-Ok
returns-in-Ok c =
    let q : List ℕ = ranked_key c.args.key.now in
    let rows : Rows = rows_of c.self.inside.rows.items in
    let found : IsFoundAt q rows c.in-Ok.at = subst (λ (vs : List Row). IsFoundAt q (rows_of vs) c.in-Ok.at) c.deref.ensures.value c.in-Ok.ensures in
    sym (raise_rows rows (rows_of c.raise_at.new.rows.items) c.in-Ok.at c.args.key.now c.args.live_until c.self.inside.count c.self.invariant found c.requires c.ranges.live_until.fits
    c.raise_at.ensures.new c.raise_at.ensures.full).map
    ∙ ap (λ (m : LedgerMap). raise m c.args.key.now c.args.live_until) c.self.view_is

pub returns-in_default : goal.returns-in_default
returns-in_default c =
    let q : List ℕ = ranked_key c.args.key.now in
    let rows : Rows = rows_of c.self.inside.rows.items in
    let gap : IsGapAt q rows c.in_default.field-0 = subst (λ (vs : List Row). IsGapAt q (rows_of vs) c.in_default.field-0) c.deref.ensures.value c.in_default.ensures in
    sym c.self.view_is
    ∙ raise_none rows c.in_default.field-0 c.args.key.now c.args.live_until c.self.invariant.entries gap c.requires
    ∙ ap (λ (m : LedgerMap). raise m c.args.key.now c.args.live_until) c.self.view_is
