use Rattle.std.proofs.Common.{◌+◌, ◌-◌, ◌*◌}
use Rattle.xdr_core.specs.Reads.{AllFit}
use Rattle.xdr_core.proofs.Lemmas.{SoFar}
use Rattle.value_types.specs.Views.{datums, datum_pairs}
use Rattle.value_types.specs.Formats.{value_format, member_format, entry_format}
use Rattle.value_xdr.proofs.reading.+read.Given as goal

abbrev pub decreases-read_items : goal.decreases-read_items
decreases-read_items g l = 8 * l.left

abbrev pub decreases-read_members : goal.decreases-read_members
decreases-read_members g l = 8 * l.left

abbrev pub decreases-read_value : goal.decreases-read_value
decreases-read_value g l = 8 * l.left + 6

abbrev pub invariant-read_items-loop : goal.invariant-read_items-loop
invariant-read_items-loop g l =
    let read = (member_format (value_format (l.left - 1))).read in
    SoFar read (datums l.items.items) (l.count - l.counter) l.count (g.W.Words.seen l.initial.input) (g.W.Words.seen l.input)
    × AllFit (member_format (value_format (l.left - 1))).fits (datums l.items.items) l.counter

abbrev pub invariant-read_members-loop : goal.invariant-read_members-loop
invariant-read_members-loop g l =
    let read = (entry_format (l.left - 1)).read in
    SoFar read (datum_pairs l.items.items) (l.count - l.counter) l.count (g.W.Words.seen l.initial.input) (g.W.Words.seen l.input)
    × AllFit (entry_format (l.left - 1)).fits (datum_pairs l.items.items) l.counter

abbrev pub decreases-read_arm : goal.decreases-read_arm
decreases-read_arm g l = 8 * l.left + 5

abbrev pub decreases-read_vec : goal.decreases-read_vec
decreases-read_vec g l = 8 * l.left + 3

abbrev pub decreases-read_map : goal.decreases-read_map
decreases-read_map g l = 8 * l.left + 3

abbrev pub decreases-read_entry : goal.decreases-read_entry
decreases-read_entry g l = 8 * l.left + 7

abbrev pub decreases-read_instance : goal.decreases-read_instance
decreases-read_instance g l = 8 * l.left + 4
