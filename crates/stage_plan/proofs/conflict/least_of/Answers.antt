use Rattle.std.specs.Option.{option_copied}
use Rattle.std.proofs.Common.{Option, sym, ap, ◌∙◌}
use Rattle.stage_runs.specs.Maps.{LedgerKey}
use Rattle.stage_plan.specs.Listed.{lesser_met}
use Rattle.stage_plan.proofs.Clusters.{fold_more}
use Rattle.stage_plan.proofs.conflict.least_of.Goals as goal

pub loop-key-preserved : goal.loop-key-preserved
loop-key-preserved c =
    let f = lesser_met c.args.first.now.envelopes c.args.second.now.envelopes in
    c.lesser-least.ensures ∙ ap (λ (o : Option LedgerKey). f o c.key-item.result) c.loop-key.invariant
    ∙ sym (fold_more f (option_copied c.args.best) c.args.keys.now c.loop-key.key-index c.key-item.result c.loop-key-test.true c.key-item.is)
