use Rattle.std.proofs.Common.{◌≡◌, ℕ, suc, List, [], ◌∷◌, ◌++◌, sym, ap, ap₂, ◌∙◌}
use Rattle.set_generator.specs.RandomNumbers.{called, contract_of, draw, next_draw}
use Rattle.set_generator.proofs.Ranges.{map_last, next_number}
use Rattle.set_generator.proofs.draws.draw_contracts.Goals as goal

pub loop-k-preserved : goal.loop-k-preserved
loop-k-preserved c =
    let next : c.next_draw-next.result ≡ draw c.args.seed (suc c.loop-k._k) = c.next_draw-next.ensures ∙ ap next_draw c.loop-k.invariant.next in
    record {
      next = next ∙ ap (draw c.args.seed) (sym (next_number c.loop-k._k));
      drawn =
          c.in_ok-push.ensures.items
          ∙ ap₂ (λ (xs : List ℕ) (x : ℕ). xs ++ x ∷ []) c.loop-k.invariant.drawn (c.contract_of.ensures ∙ ap contract_of next)
          ∙ sym (map_last (called c.args.seed) c.loop-k._k);
    }
