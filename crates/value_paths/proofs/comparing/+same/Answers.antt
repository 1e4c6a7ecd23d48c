use Rattle.value_paths.proofs.Telling.{vecs, maps}
use Rattle.value_paths.proofs.comparing.+same.Goals as goal

pub same_vecs-returns-in-Some-Some : goal.same_vecs-returns-in-Some-Some
same_vecs-returns-in-Some-Some t c = vecs _ _ _ _ _ _ _ c.in-Some-Some.is-0 c.in-Some-Some.is-1 c.as_slice.ensures c.as_slice-in-Some-Some.ensures c.same_items.ensures

pub same_maps-returns-in-Some-Some : goal.same_maps-returns-in-Some-Some
same_maps-returns-in-Some-Some t c = maps _ _ _ _ _ _ _ c.in-Some-Some.is-0 c.in-Some-Some.is-1 c.as_slice.ensures c.as_slice-in-Some-Some.ensures c.same_entries.ensures
