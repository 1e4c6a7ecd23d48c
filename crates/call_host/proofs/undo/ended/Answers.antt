use Rattle.call_host.proofs.Undoing.{undo_stays}
use Rattle.call_host.proofs.undo.ended.Goals as goal

pub returns-in-Err-clause-stays : goal.returns-in-Err-clause-stays
returns-in-Err-clause-stays g c start marks stays =
    undo_stays c.args.mark c.in-Err.error c.undo.result start c.args.host.now c.undo.new.host marks stays c.undo.ensures
