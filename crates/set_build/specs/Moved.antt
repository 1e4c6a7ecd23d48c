-- Stages that are being built, as the code has them (own).
use Rattle.std.specs.Prelude.{◌<◌, [], ◌∷◌, ◌++◌, map, length}
use Rattle.stage_runs.specs.Runs.{Stage, clusters_in}
use Rattle.set_build.specs.Built.{Building}
use Rattle.set_build.specs.declared.moving.Stages.{Stages}
use Rattle.set_build.specs.declared.place.Place.{Place}
use Rattle.set_build.specs.declared.place.Place.TheVariants.{InCluster}

abbrev pub shown : Stages → Building
shown stages = record { earlier = map clusters_in stages.earlier.items; last = map (λ cluster. cluster.items) stages.last.items }

-- the stages with an empty last one after them
abbrev pub closed : Building → Building
closed b = record { earlier = b.earlier ++ b.last ∷ []; last = [] }

-- The place is a cluster of the stage, or a new one.
abbrev pub HasPlace : Stage → Place → Type 0
HasPlace stage (InCluster i) = i < length stage
HasPlace stage _ = Unit {0}
