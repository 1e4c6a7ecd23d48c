-- Lists of events that have a spelling.
use Rattle.std.proofs.Common.{◌<◌, ℕ, zero, suc, List, [], ◌∷◌, ◌++◌, length, take, arith, length-append, length-take}
use Rattle.std.specs.List.{AllByRecursion}
use Rattle.invoke_types.specs.Event.{event_format}
use Rattle.invoke_types.specs.declared.event.ContractEvent.{ContractEvent}
use Rattle.host_acts.specs.EventLists.{AreSpelled}

each_more : {X : Type 0} (P : X → Type 0) (xs : List X) (x : X) → AllByRecursion P xs → P x → AllByRecursion P (xs ++ x ∷ [])
each_more P [] x h p = (p, tt)
each_more P (y ∷ ys) x h p = (h.0, each_more P ys x h.1 p)

each_taken : {X : Type 0} (P : X → Type 0) (n : ℕ) (xs : List X) → AllByRecursion P xs → AllByRecursion P (take n xs)
each_taken P zero xs h = tt
each_taken P (suc n) [] h = tt
each_taken P (suc n) (x ∷ xs) h = (h.0, each_taken P n xs h.1)

pub spelled_none : AreSpelled []
spelled_none = record { fits = tt; few = omega arith }

pub spelled_more : (events : List ContractEvent) (event : ContractEvent) → AreSpelled events → event_format.fits event → length events < 4294967295 → AreSpelled (events ++ event ∷ [])
spelled_more events event h p few = record {
  fits = each_more event_format.fits events event h.fits p;
  few = omega (arith, few, length-append events (event ∷ []));
}

pub spelled_taken : (n : ℕ) (events : List ContractEvent) → AreSpelled events → AreSpelled (take n events)
spelled_taken n events h = record {
  fits = each_taken event_format.fits n events h.fits;
  few = omega (arith, h.few, length-take n events);
}
