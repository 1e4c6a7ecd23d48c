use Rattle.std.proofs.Common.{◌+◌, ◌-◌, ◌*◌}
use Rattle.xdr_core.specs.Reads.{AllFit}
use Rattle.xdr_core.proofs.Lemmas.{SoFar}
use Rattle.auth_types.specs.Views.{forest_of}
use Rattle.auth_types.specs.Invocation.{tree_format, subs_format}
use Rattle.auth_types.proofs.reading.+read.Given as goal

abbrev pub decreases-read_subs : goal.decreases-read_subs
decreases-read_subs g l = 2 * l.left

abbrev pub decreases-read_invocation : goal.decreases-read_invocation
decreases-read_invocation g l = 2 * l.left + 1

abbrev pub invariant-read_subs-loop : goal.invariant-read_subs-loop
invariant-read_subs-loop g l =
    let read = (tree_format (subs_format (l.left - 1))).read in
    SoFar read (forest_of l.items.items) (l.count - l.counter) l.count (g.W.Words.seen l.initial.input) (g.W.Words.seen l.input)
    × AllFit (tree_format (subs_format (l.left - 1))).fits (forest_of l.items.items) l.counter
