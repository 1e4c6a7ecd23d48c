-- Which accesses a footprint allows, and the first access of a run that it does not allow (own, after CAP-0046-05).
use Rattle.std.specs.Prelude.{List, [], ◌∷◌, Bool, Option, Some, None, ◌||◌, if◌then◌else◌}
use Rattle.std.specs.Option.{option_or}
use Rattle.tx_xdr.specs.declared.transaction.Footprint.{Footprint}
use Rattle.ledger_spec.specs.LedgerMap.{key_bytes}
use Rattle.stage_runs.specs.Maps.{has_bytes}
use Rattle.call_spec.specs.World.{Read, Extend, Write, Access, Judge}

-- A write needs a key that is declared read-write. A read or an extension needs a declared key.
abbrev pub by_footprint : Footprint → Judge
by_footprint footprint Read key = has_bytes footprint.read_only key || has_bytes footprint.read_write key
by_footprint footprint Extend key = has_bytes footprint.read_only key || has_bytes footprint.read_write key
by_footprint footprint Write key = has_bytes footprint.read_write key

-- whether the judge allows the access
abbrev pub allows : Judge → Access → Bool
allows judge a = judge a.kind (key_bytes a.key)

-- the first access in the trace that the judge rejects; a trace has its newest access first
abbrev pub first_rejected : Judge → List Access → Option Access
first_rejected judge [] = None
first_rejected judge (a ∷ older) = option_or (first_rejected judge older) (if allows judge a then None else Some a)

-- ---- up to there

abbrev pub unless_before : Option Access → List Access → List Access → List Access
unless_before (Some earlier) longer cut = cut
unless_before None longer cut = longer

-- the trace up to and including that access
abbrev pub up_to : Judge → List Access → List Access
up_to judge [] = []
up_to judge (a ∷ older) = unless_before (first_rejected judge older) (a ∷ older) (up_to judge older)
