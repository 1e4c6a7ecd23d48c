use Rattle.std.proofs.Common.{take}
use Rattle.std.specs.List.{AllByRecursion}
use Rattle.auth_types.specs.AuthEntry.{auth_entry_format}
use Rattle.auth_record.proofs.spelled.entries_fit.Given as goal

abbrev pub invariant-loop-entry : goal.invariant-loop-entry
invariant-loop-entry l = AllByRecursion auth_entry_format.fits (take l.entry-index l.entries)
