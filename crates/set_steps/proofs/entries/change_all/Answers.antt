use Rattle.std.proofs.Common.{[], ◌∷◌, All, refl, sym, ap, subst, ◌∙◌}
use Rattle.std.proofs.lemmas.List.Sums.{fold-append}
use Rattle.ledger_spec.specs.LedgerMap.{LedgerMap}
use Rattle.stage_runs.specs.Runs.{change}
use Rattle.tx_steps.specs.Effects.{CanChange}
use Rattle.set_steps.proofs.Lists.{next_of, rest_of}
use Rattle.set_steps.proofs.entries.change_all.Goals as goal

pub loop-change-init : goal.loop-change-init
loop-change-init g c = record {
  own = refl;
  shown = refl;
  left = subst (All CanChange) (sym c.into_iter-change-iterator.ensures.into_iter_gives.0) c.requires;
}

pub change-requires-clause-key : goal.change-requires-clause-key
change-requires-clause-key g c = (next_of CanChange c.loop-change.change-iterator.rest.items c.in-Some.change c.next.new.self.rest.items c.in-Some.ensures.steps.0 c.loop-change.invariant.left).key

pub change-requires-clause-after : goal.change-requires-clause-after
change-requires-clause-after g c = (next_of CanChange c.loop-change.change-iterator.rest.items c.in-Some.change c.next.new.self.rest.items c.in-Some.ensures.steps.0 c.loop-change.invariant.left).after

pub loop-change-preserved : goal.loop-change-preserved
loop-change-preserved g c = record {
  own = c.in_ok-change.ensures.own ∙ ap (λ (m : LedgerMap). change m c.in-Some.change) c.loop-change.invariant.own
      ∙ sym (fold-append change (g.E.Entries.own c.args.entries.now) c.loop-change.yielded (c.in-Some.change ∷ []));
  shown = c.in_ok-change.ensures.shown ∙ c.loop-change.invariant.shown;
  left = rest_of CanChange c.loop-change.change-iterator.rest.items c.in-Some.change c.next.new.self.rest.items c.in-Some.ensures.steps.0 c.loop-change.invariant.left;
}
