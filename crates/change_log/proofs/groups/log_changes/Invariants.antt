use Rattle.std.proofs.Common.{◌≡◌, ◌++◌, drop}
use Rattle.std.specs.List.{flat_map}
use Rattle.change_log.specs.Groups.{changes_of}
use Rattle.change_log.specs.Views.{all_groups_in}
use Rattle.change_log.proofs.groups.log_changes.Given as goal

abbrev pub invariant-loop-at_key : goal.invariant-loop-at_key
invariant-loop-at_key l =
    l.changes.items ++ flat_map changes_of (all_groups_in (drop l.at_key-index l.changed))
    ≡ flat_map changes_of (all_groups_in l.changed)
