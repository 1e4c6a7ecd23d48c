use Rattle.std.proofs.Common.{◌≡◌, ℕ, List, length}
use Rattle.std.specs.Vec.Iter.{into_iter_items, into_iter_len}
use Rattle.value_types.specs.Views.{datums}
use Rattle.object_store.specs.Shown.{shown_of, AreIndices}
use Rattle.host_spec.specs.Acts.{state}
use Rattle.host_spec.specs.VecRows.{all_given}
use Rattle.host_frame.specs.Made.{AreMade}
use Rattle.host_frame.proofs.AllGiven.{given_after}
use Rattle.host_frame.proofs.giving.give_each.Given as goal

abbrev pub invariant-loop-item : goal.invariant-loop-item
invariant-loop-item l = record {
  does : (memory : List ℕ) → all_given (datums l.fn.items.items) (state (shown_of l.initial.objects l.initial.shown) memory l.initial.budget)
      ≡ given_after l.words.items (datums (into_iter_items l.item-iterator)) (state (shown_of l.objects l.shown) memory l.budget);
  made : AreMade (datums (into_iter_items l.item-iterator));
  len : into_iter_len l.item-iterator ≡ length (into_iter_items l.item-iterator);
  indices : AreIndices l.objects l.shown;
}
