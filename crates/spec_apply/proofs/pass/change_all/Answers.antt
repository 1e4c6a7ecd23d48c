use Rattle.std.proofs.Common.{[], ◌∷◌, All, refl, sym, ap, subst, ◌∙◌}
use Rattle.std.proofs.lemmas.List.Elements.{All-head, All-rest, All-same}
use Rattle.std.proofs.lemmas.List.Sums.{fold-append}
use Rattle.stage_runs.specs.Maps.{LedgerMap}
use Rattle.stage_runs.specs.Runs.{change}
use Rattle.ledger_apply.specs.Done.{CanChange}
use Rattle.spec_apply.proofs.pass.change_all.Goals as goal

pub loop-made-init : goal.loop-made-init
loop-made-init c = record {
  entries = refl;
  moved = λ opening are. are;
  left = subst (All CanChange) (sym c.into_iter-made-iterator.ensures.into_iter_gives.0) c.requires;
}

pub change-requires : goal.change-requires
change-requires c =
    All-head CanChange c.in-Some.made c.next.new.self.rest.items
    (All-same CanChange _ c.loop-made.made-iterator.rest.items (sym c.in-Some.ensures.steps.0) c.loop-made.invariant.left)

pub loop-made-preserved : goal.loop-made-preserved
loop-made-preserved c = record {
  entries = c.in_ok-change.ensures.entries ∙ ap (λ (m : LedgerMap). change m c.in-Some.made) c.loop-made.invariant.entries
      ∙ sym (fold-append change c.args.entries.now c.loop-made.yielded (c.in-Some.made ∷ []));
  moved = λ opening are. c.in_ok-change.ensures.moved opening (c.loop-made.invariant.moved opening are);
  left = All-rest CanChange c.in-Some.made c.next.new.self.rest.items c.loop-made.made-iterator.rest.items c.in-Some.ensures.steps.0 c.loop-made.invariant.left;
}
