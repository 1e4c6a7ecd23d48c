-- What the first conflict of a set is, in terms of all its conflicts (own).
use Rattle.std.specs.Prelude.{◌≡◌, ◌↔◌, List, Some, None}
use Rattle.std.specs.List.{AllByRecursion}
use Rattle.stage_runs.specs.Runs.{Stage, HasNoConflict}
use Rattle.stage_runs.specs.Conflicts.{IsFirstConflict}
use Rattle.soroban_top.specs.FirstConflict.{FoundConflict, first_conflict}

-- A conflict is found exactly if it is the first one: by the index of its stage, then by those of its clusters, then by the bytes
-- of its key.
abbrev pub FirstConflictLaw : Type 0
FirstConflictLaw = (stages : List Stage) (found : FoundConflict)
    → (first_conflict stages ≡ Some found) ↔ IsFirstConflict stages found.stage found.a found.b found.key

-- None is found exactly if no stage has a conflict.
abbrev pub NoConflictLaw : Type 0
NoConflictLaw = (stages : List Stage) → (first_conflict stages ≡ None) ↔ AllByRecursion HasNoConflict stages
