-- Conflicts as the code has them (own).
use Rattle.stage_runs.specs.Maps.{key_bytes}
use Rattle.stage_plan.specs.declared.conflict.Conflict.{Conflict}
use Rattle.stage_plan.specs.Meetings.{Spot}

-- the indices of the clusters and the bytes of the key
abbrev pub spot_of : Conflict → Spot
spot_of found = record { a = found.a; b = found.b; key = key_bytes found.key.now }
