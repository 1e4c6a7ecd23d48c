use Rattle.std.proofs.Common.{◌≡◌, drop}
use Rattle.change_log.specs.Play.{played_all}
use Rattle.change_log.specs.Views.{all_placed}
use Rattle.change_log.proofs.playing.play_lists.Given as goal

abbrev pub invariant-loop-list : goal.invariant-loop-list
invariant-loop-list l =
    played_all l.back l.initial.entries (all_placed l.lists)
    ≡ played_all l.back l.entries (all_placed (drop l.list-index l.lists))
