-- The laws of change logs (own).
use Rattle.std.specs.Prelude.{◌≡◌, ℕ, Bool, true, false, not, List, Some, None, Ok}
use Rattle.std.specs.List.{AllByRecursion, flat_map}
use Rattle.std.specs.FinMap.{get}
use Rattle.ledger_types.specs.declared.header.Header.{Header}
use Rattle.ledger_spec.specs.LedgerMap.{LedgerMap, IsLedgerMap}
use Rattle.change_log.specs.Log.{Changes}
use Rattle.change_log.specs.Change.{change_format}
use Rattle.change_log.specs.Fits.{IsProper}
use Rattle.change_log.specs.Groups.{Group, changes_of, group_at, groups_at, groups, changes}
use Rattle.change_log.specs.Keys.{Rise, has_key}
use Rattle.change_log.specs.Read.{groups_in, rise_after}
use Rattle.change_log.specs.Play.{played_list, played}
use Rattle.change_log.specs.declared.log.Log.{Log}

-- The change groups of two ledgers' maps, played on the first, give the second.
abbrev pub GroupsLaw : Type 0
GroupsLaw = (m n : LedgerMap) → IsLedgerMap m → IsLedgerMap n → played_list false m (changes m n) ≡ Some n

-- The groups at rising keys are all groups of two maps, if the maps differ at no other key.
abbrev pub KeysLaw : Type 0
KeysLaw =
    (m n : LedgerMap) (keys : List (List ℕ)) → Rise keys → ((key : List ℕ) → has_key keys key ≡ false → get m key ≡ get n key)
    → groups_at keys m n ≡ groups m n

-- The groups of two maps are those of two other maps that differ in the same way at each key.
abbrev pub EachKeyLaw : Type 0
EachKeyLaw =
    (m n x y : LedgerMap) → ((key : List ℕ) → group_at (get m key) (get n key) ≡ group_at (get x key) (get y key))
    → groups m n ≡ groups x y

-- The groups that a list of changes is read as have these changes.
abbrev pub ReadLaw : Type 0
ReadLaw =
    (list : Changes) (groups : List Group) → AllByRecursion change_format.fits list → groups_in list ≡ Some groups
    → list ≡ flat_map changes_of groups

-- The changes of groups are read as these groups, if they are groups of ledgers' maps and their keys rise.
abbrev pub WrittenLaw : Type 0
WrittenLaw =
    (groups : List Group) → AllByRecursion IsProper groups → rise_after None groups ≡ true
    → groups_in (flat_map changes_of groups) ≡ Some groups

-- A list that was played can be played back, and the other way round.
abbrev pub ListBackLaw : Type 0
ListBackLaw = (back : Bool) (m n : LedgerMap) → (list : Changes) → played_list back m list ≡ Some n
    → played_list (not back) n list ≡ Some m

-- A log that was played can be played back, and the other way round. The header comes back whole.
abbrev pub BackLaw : Type 0
BackLaw =
    (back : Bool) (log : Log) (header after : Header) (m n : LedgerMap) → played back log header m ≡ Ok (after, n)
    → played (not back) log after n ≡ Ok (header, m)
