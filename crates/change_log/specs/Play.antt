-- Plays of a change log on a ledger, forwards and backwards (own).
use Rattle.std.specs.Prelude.{◌==◌, ◌&&◌, ◌+◌, ℕ, suc, Bool, true, false, List, [], ◌∷◌, ◌++◌, Option, Some, None, Result, Ok}
use Rattle.std.specs.Prelude.{Err}
use Rattle.std.specs.Prelude.{if◌then◌else◌, reverse}
use Rattle.std.specs.Option.{option_and_then}
use Rattle.std.specs.FinMap.{get, insert, remove}
use Rattle.ledger_types.specs.declared.header.Header.{Header}
use Rattle.ledger_spec.specs.declared.Kept.{Kept}
use Rattle.ledger_spec.specs.LedgerMap.{LedgerMap}
use Rattle.change_log.specs.Log.{Changes}
use Rattle.change_log.specs.Groups.{Group, before_of, after_of, bytes_of, keeps_entry, keeps_life}
use Rattle.change_log.specs.Read.{groups_in}
use Rattle.change_log.specs.declared.log.LoggedStage.{LoggedStage}
use Rattle.change_log.specs.declared.log.Log.{Log}
use Rattle.change_log.specs.declared.error.ListIndex.{ListIndex}

-- from the first to the last, or backwards from the last
abbrev pub in_order : {A : Type 0} → Bool → List A → List A
in_order false xs = xs
in_order true xs = reverse xs

-- ---- groups

-- what a group replaces: forwards what was before it, backwards what was after it
abbrev pub replaced_by : Bool → Group → Option Kept
replaced_by false group = before_of group
replaced_by true group = after_of group

-- what stands there then
abbrev pub put_by : Bool → Group → Option Kept
put_by false group = after_of group
put_by true group = before_of group

-- what the map has is what the group replaces
abbrev pub is_held : Option Kept → Option Kept → Bool
is_held None None = true
is_held None (Some old) = false
is_held (Some kept) None = false
is_held (Some kept) (Some old) = keeps_entry kept old && keeps_life kept old

-- the map with this entry at these bytes, or with none
abbrev pub set_to : LedgerMap → List ℕ → Option Kept → LedgerMap
set_to m bytes None = remove m bytes
set_to m bytes (Some kept) = insert m bytes kept

-- the map with the new entry in the place of the old one, if it has that there
abbrev pub exchanged : LedgerMap → List ℕ → Option Kept → Option Kept → Option LedgerMap
exchanged m bytes old new = if is_held (get m bytes) old then Some (set_to m bytes new) else None

-- the map after a group
abbrev pub replaced : Bool → LedgerMap → Group → Option LedgerMap
replaced back m group = exchanged m (bytes_of group) (replaced_by back group) (put_by back group)

-- the map after group after group, if each fits
abbrev pub replaced_all : Bool → LedgerMap → List Group → Option LedgerMap
replaced_all back m [] = Some m
replaced_all back m (group ∷ groups) =
    option_and_then (λ (n : LedgerMap). replaced_all back n groups) (replaced back m group)

-- ---- lists of changes

-- the map after a list of changes, if the list is one of groups that fit the map
abbrev pub played_list : Bool → LedgerMap → Changes → Option LedgerMap
played_list back m list =
    option_and_then (λ (groups : List Group). replaced_all back m (in_order back groups)) (groups_in list)

-- a list of a log, and where it is: the index of the stage, and in the stage that of the transaction, or the number of
-- transactions for the stage's end
pub record Placed : Type 0 where
  pub at : ListIndex
  pub list : Changes

abbrev pub placed_from : ℕ → ℕ → List Changes → List Placed
placed_from stage index [] = []
placed_from stage index (list ∷ lists) =
    record { at = record { stage = stage; list = index }; list = list } ∷ placed_from stage (suc index) lists

-- the lists of stages, the first of which has this index
abbrev pub lists_from : ℕ → List LoggedStage → List Placed
lists_from number [] = []
lists_from number (stage ∷ stages) =
    placed_from number 0 (stage.transactions ++ stage.end ∷ []) ++ lists_from (suc number) stages

-- the lists of a log: of each stage those of the transactions, and then that of the stage's end
abbrev pub lists_of : Log → List Placed
lists_of log = lists_from 0 log.stages

-- what follows a list that fits, or where the list is
abbrev pub or_at : ListIndex → (LedgerMap → Result LedgerMap ListIndex) → Option LedgerMap → Result LedgerMap ListIndex
or_at at next None = Err at
or_at at next (Some m) = next m

-- the map after all lists, or the index of the first that does not fit
abbrev pub played_all : Bool → LedgerMap → List Placed → Result LedgerMap ListIndex
played_all back m [] = Ok m
played_all back m (list ∷ lists) =
    or_at list.at (λ (n : LedgerMap). played_all back n lists) (played_list back m list.list)

-- ---- logs

-- the log is of this ledger: forwards of the old one, backwards of the new one
abbrev pub is_of : Bool → Log → Header → Bool
is_of false log header = (header.seq == log.old_seq) && (header.close_time == log.old_close_time)
is_of true log header = (header.seq == log.old_seq + 1) && (header.close_time == log.new_close_time)

-- the header of the ledger that the log leads to
abbrev pub header_after : Bool → Log → Header → Header
header_after false log header = record header { seq = log.old_seq + 1; close_time = log.new_close_time }
header_after true log header = record header { seq = log.old_seq; close_time = log.old_close_time }

-- a ledger with this header, if there is one
abbrev pub with_header : Header → Result LedgerMap ListIndex → Result (Header × LedgerMap) (Option ListIndex)
with_header header (Ok m) = Ok (header, m)
with_header header (Err at) = Err (Some at)

-- A log played on a ledger. If the header does not fit, there is no index.
abbrev pub played : Bool → Log → Header → LedgerMap → Result (Header × LedgerMap) (Option ListIndex)
played back log header m =
    if is_of back log header then with_header (header_after back log header) (played_all back m (in_order back (lists_of log)))
    else Err None
