use Rattle.std.proofs.Common.{◌≡◌, ◌+◌, ◌-◌, ◌/◌, ◌<◌, ◌∙◌, ℕ, List, get_or, length, sym, ap, arith}
use Rattle.std.specs.declared.cmp.Ordering.TheVariants.{Less, Greater}
use Rattle.ledger_types.specs.Entry.{key_of}
use Rattle.ledger_types.specs.KeyOrder.{ranked_key, key_cmp}
use Rattle.entry_map.specs.declared.stored.StoredEntry.{StoredEntry}
use Rattle.entry_map.specs.Entries.{Boxed, own_key}
use Rattle.entry_map.proofs.Sorted.{order}
use Rattle.entry_map.proofs.Search.{index_low, index_high}
use Rattle.entry_map.proofs.rows.index_in.Goals as goal

pub loop-low-preserved-in-Less : goal.loop-low-preserved-in-Less
loop-low-preserved-in-Less c =
    let middle : ℕ = c.loop-low.low + (c.loop-low.high - c.loop-low.low) / 2 in
    let lt : middle < length c.args.row.now = omega (arith, c.loop-low-test.true, c.loop-low.invariant.within) in
    let q : List ℕ = ranked_key c.args.key.now in
    let less : order (own_key (get_or c.args.row.now middle c.index-row-middle.result)) q ≡ Less =
    ap (λ (b : Boxed). order (own_key b) q) (sym c.index-row-middle.is)
    ∙ ap (λ (s : StoredEntry). key_cmp (key_of s.kept.entry) c.args.key.now) (sym c.deref.ensures) ∙ sym c.cmp_entry.ensures ∙ c.in-Less.is in
    record {
      within = c.loop-low.invariant.within;
      ordered = omega (arith, c.loop-low-test.true);
      below = index_low q c.args.row.now middle c.index-row-middle.result lt c.requires less;
      above = c.loop-low.invariant.above;
    }

pub loop-low-preserved : goal.loop-low-preserved
loop-low-preserved c =
    let middle : ℕ = c.loop-low.low + (c.loop-low.high - c.loop-low.low) / 2 in
    let lt : middle < length c.args.row.now = omega (arith, c.loop-low-test.true, c.loop-low.invariant.within) in
    let q : List ℕ = ranked_key c.args.key.now in
    let greater : order (own_key (get_or c.args.row.now middle c.index-row-middle.result)) q ≡ Greater =
    ap (λ (b : Boxed). order (own_key b) q) (sym c.index-row-middle.is)
    ∙ ap (λ (s : StoredEntry). key_cmp (key_of s.kept.entry) c.args.key.now) (sym c.deref.ensures) ∙ sym c.cmp_entry.ensures ∙ c.in-Greater.is in
    record {
      within = omega (arith, lt);
      ordered = omega arith;
      below = c.loop-low.invariant.below;
      above = index_high q c.args.row.now middle c.index-row-middle.result lt c.requires greater;
    }
