use Rattle.std.proofs.Common.{List, ◌∷◌, length, ap, subst, ◌∙◌, arith}
use Rattle.std.specs.Vec.Iter.{into_iter_items}
use Rattle.value_types.specs.Views.{datum, datums}
use Rattle.value_types.specs.declared.value.ScVal.{ScVal}
use Rattle.object_store.specs.Shown.{shown_of}
use Rattle.host_spec.specs.Acts.{state}
use Rattle.host_frame.specs.Made.{AreMade}
use Rattle.host_frame.proofs.AllGiven.{given_after, after_next}
use Rattle.host_frame.proofs.giving.give_each.Goals as goal

pub loop-item-preserved : goal.loop-item-preserved
loop-item-preserved c =
    let i = c.loop-item.invariant in
    let step = c.in-Some.ensures.steps in
    let rest : List ScVal = into_iter_items c.next.new.self in
    let made : AreMade (datums (c.in-Some.item ∷ rest)) = subst (λ (vs : List ScVal). AreMade (datums vs)) step.0 i.made in record {
      does = λ memory. i.does memory
          ∙ ap (λ (vs : List ScVal). given_after c.loop-item.words.items (datums vs) (state (shown_of c.loop-item.objects c.loop-item.shown) memory c.loop-item.budget)) step.0
          ∙ after_next c.loop-item.words.items c.in_ok-words-2.words.items (datum c.in-Some.item) (datums rest) _ _ (c.in_ok-words-2.ensures.does memory);
      made = made.1;
      len = omega (arith, i.len, step.1, ap length step.0);
      indices = c.in_ok-words-2.ensures.indices;
    }
