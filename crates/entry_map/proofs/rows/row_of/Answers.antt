use Rattle.std.proofs.Common.{◌≡◌, ◌+◌, ◌-◌, ◌/◌, ◌<◌, ◌∙◌, ℕ, List, [], suc, true, false, get_or, length, sym, ap, arith}
use Rattle.ledger_types.specs.KeyOrder.{ranked_key}
use Rattle.entry_map.specs.Rows.{rows_of, ends_below}
use Rattle.entry_map.proofs.Places.{Rows, row_is, length_rows}
use Rattle.entry_map.proofs.Search.{row_low, row_high, none_before, all_after}
use Rattle.entry_map.proofs.rows.row_of.Goals as goal

pub loop-low-init : goal.loop-low-init
loop-low-init c =
    let q : List ℕ = ranked_key c.args.key.now in
    let rows : Rows = rows_of c.args.rows.now in
    record {
      within = omega (arith, c.saturating_sub-high.ensures);
      ordered = omega arith;
      below = none_before q rows;
      above = all_after q rows (suc c.saturating_sub-high.result) (omega (arith, c.saturating_sub-high.ensures, length_rows c.args.rows.now));
    }

pub loop-low-preserved-then-ends_below : goal.loop-low-preserved-then-ends_below
loop-low-preserved-then-ends_below c =
    let middle : ℕ = c.loop-low.low + (c.loop-low.high - c.loop-low.low) / 2 in
    let lt : middle < length c.args.rows.now = omega (arith, c.loop-low-test.true, c.loop-low.invariant.within) in
    let q : List ℕ = ranked_key c.args.key.now in
    let rows : Rows = rows_of c.args.rows.now in
    let low : ends_below q (get_or rows middle []) ≡ true =
    ap (ends_below q) (row_is c.args.rows.now middle c.index-rows-middle.result lt c.index-rows-middle.is ∙ sym c.deref.ensures.value) ∙ sym c.ends_below.ensures ∙ c.if-ends_below.true in
    record {
      within = c.loop-low.invariant.within;
      ordered = omega (arith, c.loop-low-test.true);
      below = row_low q rows middle (omega (arith, lt, length_rows c.args.rows.now)) c.requires.full c.requires.sorted low;
      above = c.loop-low.invariant.above;
    }

pub loop-low-preserved : goal.loop-low-preserved
loop-low-preserved c =
    let middle : ℕ = c.loop-low.low + (c.loop-low.high - c.loop-low.low) / 2 in
    let lt : middle < length c.args.rows.now = omega (arith, c.loop-low-test.true, c.loop-low.invariant.within) in
    let q : List ℕ = ranked_key c.args.key.now in
    let rows : Rows = rows_of c.args.rows.now in
    let high : ends_below q (get_or rows middle []) ≡ false =
    ap (ends_below q) (row_is c.args.rows.now middle c.index-rows-middle.result lt c.index-rows-middle.is ∙ sym c.deref.ensures.value) ∙ sym c.ends_below.ensures ∙ c.if-ends_below.false in
    record {
      within = omega (arith, lt);
      ordered = omega arith;
      below = c.loop-low.invariant.below;
      above = row_high q rows middle (omega (arith, lt, length_rows c.args.rows.now)) c.requires.full c.requires.sorted high;
    }
