-- How many steps a schedule has that can be written.
use Rattle.std.specs.List.{AllByRecursion}
use Rattle.std.proofs.Common.{◌≤◌, ◌*◌, ◌^◌, ◌-◌, ℕ, List, [], ◌∷◌, length, arith}
use Rattle.xdr_spec.specs.Format.{list, number32}
use Rattle.schedule_runs.specs.Plans.{steps_of}
use Rattle.schedule_runs.specs.Schedule.{schedule_format}
use Rattle.schedule_runs.specs.declared.schedule.Schedule.{Schedule}

each_few : (orders : List (List ℕ)) → AllByRecursion (list 4294967295 number32).fits orders → AllByRecursion (λ (order : List ℕ). length order ≤ 4294967295) orders
unfolding list
each_few [] fits = tt
each_few (order ∷ orders) fits = (fits.0.0, each_few orders fits.1)

steps_bound : (orders : List (List ℕ)) → AllByRecursion (λ (order : List ℕ). length order ≤ 4294967295) orders → steps_of orders ≤ length orders * 4294967295
steps_bound [] few = omega arith
steps_bound (order ∷ orders) few = let first = few.0 in let others = steps_bound orders few.1 in omega (arith, first, others)

pub few_steps : (schedule : Schedule) → schedule_format.fits schedule → steps_of schedule.stages ≤ 2 ^ 64 - 1
unfolding schedule_format list
few_steps schedule fits =
    let stages = fits.0 in
    let steps = steps_bound schedule.stages (each_few schedule.stages fits.2) in
    omega (arith, stages, steps)
