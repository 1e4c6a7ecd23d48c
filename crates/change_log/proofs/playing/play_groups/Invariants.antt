use Rattle.std.proofs.Common.{◌≡◌, drop}
use Rattle.change_log.specs.Play.{replaced_all}
use Rattle.change_log.specs.Views.{groups_of}
use Rattle.change_log.proofs.playing.play_groups.Given as goal

abbrev pub invariant-loop-group : goal.invariant-loop-group
invariant-loop-group l =
    replaced_all l.back l.initial.entries (groups_of l.groups)
    ≡ replaced_all l.back l.entries (groups_of (drop l.group-index l.groups))
