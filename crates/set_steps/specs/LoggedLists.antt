-- The lists of a change log, as the code makes them (own).
use Rattle.std.specs.Prelude.{◌≡◌, ◌<◌, ◌++◌, ◌^◌, ℕ, Bool, true, false, List, [], ◌∷◌, map, length, Option, Some, None, Ok}
use Rattle.std.specs.Prelude.{if◌then◌else◌}
use Rattle.std.specs.FinMap.{retain_keys}
use Rattle.std.specs.List.{AllByRecursion, flat_map}
use Rattle.stage_runs.specs.Maps.{LedgerMap}
use Rattle.stage_runs.specs.Transactions.{Step, writes}
use Rattle.stage_runs.specs.Runs.{RunState, Stage}
use Rattle.ledger_parts.specs.Notes.{Note}
use Rattle.change_log.specs.Log.{Changes, stage_format}
use Rattle.change_log.specs.Groups.{changes}
use Rattle.change_log.specs.Fits.{AreKept}
use Rattle.change_log.specs.Play.{lists_from, played_all}
use Rattle.change_log.specs.declared.log.LoggedStage.{LoggedStage}
use Rattle.set_steps.specs.Logged.{logged_stages}

-- what a map has at the keys that a transaction declares read-write, before the transaction and after it
pub record WrittenSides : Type 0 where
  pub before : LedgerMap
  pub after : LedgerMap

abbrev pub written_sides : Note WrittenSides
written_sides m m' tx = record { before = retain_keys m (writes tx); after = retain_keys m' (writes tx) }

-- its list in a log
abbrev pub list_of : WrittenSides → Changes
list_of t = changes t.before t.after

-- The list can be written: each entry is at its key, and the changes are fewer than 2 ^ 32.
pub record IsWritable (m n : LedgerMap) : Type 0 where
  pub before : AreKept m
  pub after : AreKept n
  pub few : length (changes m n) < 2 ^ 32

abbrev pub IsSound : WrittenSides → Type 0
IsSound t = IsWritable t.before t.after

-- if a log is kept, what is in it
abbrev pub if_logs : {A : Type 0} → Bool → List A → List A
if_logs logs xs = if logs then xs else []

-- The lists of transactions were added, if a log is kept.
pub record AddsLists (logs : Bool) (ts : List WrittenSides) (old new : List Changes) : Type 0 where
  pub lists : new ≡ old ++ if_logs logs (map list_of ts)
  pub sound : logs ≡ true → AllByRecursion IsSound ts

-- the lists of clusters, one after the other
abbrev pub all_lists : List (List WrittenSides) → List Changes
all_lists tss = flat_map (λ (ts : List WrittenSides). map list_of ts) tss

-- The log of a stage, if one is kept: what its clusters change, and the maps before and after its end.
pub record IsStageLog (logs : Bool) (tss : List (List WrittenSides)) (m n : LedgerMap)
    (logged : Option LoggedStage) : Type 0 where
  pub stage : logged ≡ (if logs then Some (record { transactions = all_lists tss; end = changes m n }) else None)
  pub sound : logs ≡ true → AllByRecursion (λ (ts : List WrittenSides). AllByRecursion IsSound ts) tss
  pub end : logs ≡ true → IsWritable m n
  pub few : logs ≡ true → length (all_lists tss) < 2 ^ 32

-- the item, if there is one
abbrev pub list_if : {A : Type 0} → Option A → List A
list_if None = []
list_if (Some x) = x ∷ []

-- The logs of stages lead from a map to another one, wherever they stand in a log.
abbrev pub Lead : LedgerMap → List LoggedStage → LedgerMap → Type 0
Lead m stages n = (number : ℕ) → played_all false m (lists_from number stages) ≡ Ok n

-- These are the logs of stages that ran one after the other, if a log is kept.
pub record AreStageLogs (logs : Bool) (step : Step) (running : RunState) (stages : List Stage) (after : LedgerMap)
    (log : List LoggedStage) : Type 0 where
  pub lists : log ≡ if_logs logs (logged_stages step running stages)
  pub fit : AllByRecursion stage_format.fits log
  pub lead : logs ≡ true → Lead running.entries log after
