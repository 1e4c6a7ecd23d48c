use Rattle.std.proofs.Common.{List, [], ◌∷◌, ◌++◌, sym, ap₂, ◌∙◌}
use Rattle.tx_xdr.specs.declared.set.Cluster.{Cluster}
use Rattle.set_generator.specs.Drawn.{drawn_cluster}
use Rattle.set_generator.proofs.Ranges.{map_last}
use Rattle.set_generator.proofs.set.stage.Goals as goal

pub loop-number-preserved : goal.loop-number-preserved
loop-number-preserved c =
    c.in_ok-push.ensures.items
    ∙ ap₂ (λ (xs : List Cluster) (x : Cluster). xs ++ x ∷ []) c.loop-number.invariant c.in_ok-cluster.ensures
    ∙ sym (map_last (drawn_cluster c.args.drawn.now c.args.stage) c.loop-number.number)
