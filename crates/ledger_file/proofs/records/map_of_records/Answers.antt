use Rattle.std.proofs.Common.{length}
use Rattle.std.proofs.lemmas.List.{length_push}
use Rattle.std.proofs.lemmas.Result.{err_from_is_err_and}
use Rattle.std.proofs.lemmas.Iterator.Adapters.{YieldsList-from_vec}
use Rattle.std.proofs.lemmas.Iterator.Consumers.{YieldsList-turn, YieldsList-end}
use Rattle.std.specs.FinMap.{entries}
use Rattle.ledger_file.proofs.Steps.{judged_none, judged_more, all_made, first_by, order, entries-empty}
use Rattle.ledger_file.proofs.records.map_of_records.Goals as goal

pub loop-item-init : goal.loop-item-init
loop-item-init c = rw (c.new-entries.ensures, entries-empty order) (judged_none c.args.records.items)

pub loop-item-preserved : goal.loop-item-preserved
loop-item-preserved c =
    let t = YieldsList-turn (YieldsList-from_vec c.args.records.items (cc) (cc)) c.loop-item.yielded c.loop-item.item-iterator c.loop-item.yielded_by _ c.next.new.self c.in-Some.item c.in-Some.is c.next.ensures.steps in
    judged_more c.args.records.items (length c.loop-item.yielded) _ (entries c.loop-item.entries) _ c.in-Some.item c.loop-item.invariant t.0 t.1
    c.in_ok-push_record.ensures.good c.in_ok-push_record.ensures.ok (length_push c.loop-item.yielded c.in-Some.item)

pub returns-in_err-push_record-clause-err : goal.returns-in_err-push_record-clause-err
returns-in_err-push_record-clause-err c =
    let t = YieldsList-turn (YieldsList-from_vec c.args.records.items (cc) (cc)) c.loop-item.yielded c.loop-item.item-iterator c.loop-item.yielded_by _ c.next.new.self c.in-Some.item c.in-Some.is c.next.ensures.steps in
    let p = err_from_is_err_and c.from_residual.result c.from_residual.ensures.1 in
    rw (p.1, p.2) (first_by c.args.records.items (length c.loop-item.yielded) c.loop-item.entries c.in-Some.item _ c.loop-item.invariant t.0 t.1 c.in_err-push_record.ensures.err)

pub returns-clause-ok : goal.returns-clause-ok
returns-clause-ok c =
    let t = YieldsList-end (YieldsList-from_vec c.args.records.items (cc) (cc)) c.loop-item.yielded c.loop-item.item-iterator c.loop-item.yielded_by _ c.next.new.self c.in-None.is c.next.ensures.steps in
    all_made c.args.records.items (length c.loop-item.yielded) c.loop-item.entries c.loop-item.invariant t.1
