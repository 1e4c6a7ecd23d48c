use Rattle.value_paths.proofs.Telling.{vecs_apart, maps_apart}
use Rattle.value_paths.proofs.place.+differ.Goals as goal

pub vecs_differ-returns-in-Some-Some : goal.vecs_differ-returns-in-Some-Some
vecs_differ-returns-in-Some-Some t c =
    λ e. vecs_apart _ _ _ _ _ _ c.in-Some-Some.is-0 c.in-Some-Some.is-1 c.as_slice.ensures c.as_slice-in-Some-Some.ensures (c.items_differ.ensures e)

pub maps_differ-returns-in-Some-Some : goal.maps_differ-returns-in-Some-Some
maps_differ-returns-in-Some-Some t c =
    λ e. maps_apart _ _ _ _ _ _ c.in-Some-Some.is-0 c.in-Some-Some.is-1 c.as_slice.ensures c.as_slice-in-Some-Some.ensures (c.entries_differ.ensures e)
