use Rattle.set_place.proofs.Placed.{applied_at, in_order, place_of, reported_at}
use Rattle.set_place.proofs.laws.places_are_reported.Goals as goal

pub returns : goal.returns
returns c = record { place = place_of; order = in_order; reported = reported_at; applied = applied_at }
