use Rattle.std.proofs.Common.{◌≡◌, ◌++◌, drop}
use Rattle.change_log.specs.Play.{placed_from}
use Rattle.change_log.specs.Views.{all_placed}
use Rattle.change_log.proofs.playing.add_transactions.Given as goal

abbrev pub invariant-loop-list : goal.invariant-loop-list
invariant-loop-list l =
    all_placed l.lists.items ++ placed_from l.stage l.list (drop l.list l.transactions)
    ≡ all_placed l.initial.lists.items ++ placed_from l.stage 0 l.transactions
