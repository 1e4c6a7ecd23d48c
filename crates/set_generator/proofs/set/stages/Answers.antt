use Rattle.std.proofs.Common.{List, [], ◌∷◌, ◌++◌, sym, ap₂, ◌∙◌}
use Rattle.tx_xdr.specs.declared.set.Stage.{Stage}
use Rattle.set_generator.specs.Drawn.{drawn_stage}
use Rattle.set_generator.proofs.Ranges.{map_last}
use Rattle.set_generator.proofs.set.stages.Goals as goal

pub loop-number-preserved : goal.loop-number-preserved
loop-number-preserved c =
    c.in_ok-push.ensures.items
    ∙ ap₂ (λ (xs : List Stage) (x : Stage). xs ++ x ∷ []) c.loop-number.invariant c.in_ok-stage.ensures
    ∙ sym (map_last (drawn_stage c.args.drawn.now) c.loop-number.number)
