use Rattle.std.proofs.Common.{◌≡◌, drop}
use Rattle.change_log.specs.Fits.{IsPartial}
use Rattle.change_log.specs.Read.{nothing, read_from, with_first}
use Rattle.change_log.specs.Views.{groups_of, partial_of}
use Rattle.change_log.proofs.read.read_all.Given as goal

abbrev pub invariant-loop-change : goal.invariant-loop-change
invariant-loop-change l = record {
  same : read_from nothing l.changes
      ≡ with_first (groups_of l.groups.items) (read_from (partial_of l.partial) (drop l.change-index l.changes));
  fits : IsPartial (partial_of l.partial);
}
