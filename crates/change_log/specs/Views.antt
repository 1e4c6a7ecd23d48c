-- What the code keeps by reference, as values (own).
use Rattle.std.specs.Prelude.{◌≡◌, Bool, true, false, List, [], ◌∷◌, map, Option, Some, None, IsSomeAnd, Result, Ok, Err}
use Rattle.std.specs.List.{flat_map}
use Rattle.std.specs.Option.{option_map}
use Rattle.ledger_types.specs.Entry.{key_of, entry_format}
use Rattle.ledger_types.specs.declared.header.Header.{Header}
use Rattle.ledger_spec.specs.LedgerMap.{LedgerMap, key_bytes}
use Rattle.entry_lookup.specs.declared.ground.Found.{Found}
use Rattle.entry_lookup.specs.Found.{kept_of}
use Rattle.change_log.specs.Groups as groups
use Rattle.change_log.specs.Read as read
use Rattle.change_log.specs.Play as playing
use Rattle.change_log.specs.declared.error.ListIndex.{ListIndex}
use Rattle.change_log.specs.declared.error.PlayErr.{PlayErr}
use Rattle.change_log.specs.declared.error.PlayErr.TheVariants.{Unfit, NoMemory}
use Rattle.change_log.specs.declared.playing.Placed.{Placed}
use Rattle.change_log.specs.declared.groups.Changed.{Changed}
use Rattle.change_log.specs.declared.group.Group.{Group}
use Rattle.change_log.specs.declared.group.Group.TheVariants.{Made, Gone, Altered}
use Rattle.change_log.specs.declared.read.Partial.{Partial}
use Rattle.change_log.specs.declared.read.Partial.TheVariants.{Nothing, Created, Stated, Held, Removed, Updated}
use Rattle.change_log.specs.declared.read.Progress.{Progress}

abbrev pub group_of : Group → groups.Group
group_of (Made new) = groups.made (kept_of new)
group_of (Gone old) = groups.gone (kept_of old)
group_of (Altered old new) = groups.altered (kept_of old) (kept_of new)

abbrev pub partial_of : Partial → read.Partial
partial_of Nothing = read.nothing
partial_of (Created entry) = read.created entry.now
partial_of (Stated entry) = read.stated entry.now
partial_of (Held old) = read.held (kept_of old)
partial_of (Removed old) = read.removed (kept_of old)
partial_of (Updated old entry) = read.updated (kept_of old) entry.now

abbrev pub done_of : Option Group → List groups.Group
done_of None = []
done_of (Some group) = group_of group ∷ []

abbrev pub progress_of : Progress → read.Progress
progress_of s = record { done = done_of s.done; partial = partial_of s.partial }

abbrev pub groups_of : List Group → List groups.Group
groups_of gs = map group_of gs

-- the lists of a log that the code keeps by reference
abbrev pub placed_of : Placed → playing.Placed
placed_of p = record { at = p.at; list = p.changes.now }

abbrev pub all_placed : List Placed → List playing.Placed
all_placed ps = map placed_of ps

-- Whether a play fits, and the map after it. If it does not fit, nothing is said of the map.
abbrev pub IsPlayed : Bool → LedgerMap → Option LedgerMap → Type 0
IsPlayed true m result = result ≡ Some m
IsPlayed false m result = result ≡ None

-- the same with the index of the list that does not fit
abbrev pub IsPlayedTo : Option ListIndex → LedgerMap → Result LedgerMap ListIndex → Type 0
IsPlayedTo None m result = result ≡ Ok m
IsPlayedTo (Some at) m result = result ≡ Err at

-- This is the first list that does not fit, or memory ran out.
abbrev pub IsStuckUnlessMemory : Result LedgerMap ListIndex → PlayErr → Type 0
IsStuckUnlessMemory result (Unfit at) = IsSomeAnd at (λ index. result ≡ Err index)
IsStuckUnlessMemory result NoMemory = Unit {0}

-- The log does not fit, and this is the first list that does not; or memory ran out.
abbrev pub IsUnfitUnlessMemory : Result (Header × LedgerMap) (Option ListIndex) → PlayErr → Type 0
IsUnfitUnlessMemory result (Unfit at) = result ≡ Err at
IsUnfitUnlessMemory result NoMemory = Unit {0}

-- what two maps have at a key
abbrev pub group_in : Changed → List groups.Group
group_in c = groups.group_at (option_map kept_of c.before) (option_map kept_of c.after)

abbrev pub all_groups_in : List Changed → List groups.Group
all_groups_in cs = flat_map group_in cs

-- both entries can be written and are at one key, where both are there
abbrev pub IsChangedBy : Option Found → Option Found → Type 0
IsChangedBy None None = Unit {0}
IsChangedBy None (Some new) = entry_format.fits new.entry.now
IsChangedBy (Some old) None = entry_format.fits old.entry.now
IsChangedBy (Some old) (Some new) =
    entry_format.fits old.entry.now × (key_bytes (key_of old.entry.now) ≡ key_bytes (key_of new.entry.now))

abbrev pub IsChanged : Changed → Type 0
IsChanged c = IsChangedBy c.before c.after
