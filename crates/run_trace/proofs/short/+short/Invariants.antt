use Rattle.std.proofs.Common.{◌+◌, ◌*◌}
use Rattle.run_trace.proofs.short.+short.Given as goal

abbrev pub decreases-push_level : goal.decreases-push_level
decreases-push_level l = 2 * l.levels

abbrev pub decreases-push_items : goal.decreases-push_items
decreases-push_items l = 2 * l.levels + 1

abbrev pub decreases-push_entries : goal.decreases-push_entries
decreases-push_entries l = 2 * l.levels + 1
