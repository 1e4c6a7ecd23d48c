-- The file of a schedule (own): a list for each stage, of the numbers of clusters.
use Rattle.std.specs.Prelude.{ℕ, List, refl}
use Rattle.xdr_spec.specs.Format.{Format, via, list, number32}
use Rattle.xdr_spec.specs.Laws.{IsFormat}
use Rattle.xdr_spec.proofs.Lemmas.{list_lawful, number32_lawful, via_lawful}
use Rattle.schedule_runs.specs.declared.schedule.Schedule.{Schedule}

abbrev pub schedule_of : List (List ℕ) → Schedule
schedule_of stages = record { stages = stages }

abbrev pub orders_of : Schedule → List (List ℕ)
orders_of schedule = schedule.stages

unfoldable pub schedule_format : Format Schedule
schedule_format = via schedule_of orders_of (list 4294967295 (list 4294967295 number32))

pub schedule_lawful : IsFormat schedule_format
unfolding schedule_format
schedule_lawful =
    via_lawful schedule_of orders_of _ (λ stages. refl) (λ schedule. refl)
    (list_lawful 4294967295 _ (list_lawful 4294967295 _ number32_lawful))
