use Rattle.call_host.proofs.Undoing.{catches_end, catch_stays}
use Rattle.call_host.proofs.undo.caught.Goals as goal

pub returns-in-Err-clause-does : goal.returns-in-Err-clause-does
returns-in-Err-clause-does g c start act marks stays does =
    catches_end c.args.mark c.args.made c.in-Err.error c.caught_end.result act start c.args.host.now c.caught_end.new.host c.in-Err.is marks stays c.caught_end.ensures.catches does

pub returns-in-Err-clause-stays : goal.returns-in-Err-clause-stays
returns-in-Err-clause-stays g c start marks stays =
    catch_stays c.args.mark c.in-Err.error c.caught_end.result start c.args.host.now c.caught_end.new.host marks stays c.caught_end.ensures.catches
