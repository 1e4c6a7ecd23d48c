use Rattle.std.proofs.Common.{map}
use Rattle.spec_apply.specs.Runs.{envelope_of}
use Rattle.spec_apply.proofs.Passes.{list_passed}
use Rattle.spec_apply.proofs.list.pass_over.Goals as goal

pub run_in_order-requires-clause-done : goal.run_in_order-requires-clause-done
run_in_order-requires-clause-done g c = (c.args.entries, c.in_ok-jobs.ensures.done)

pub returns-clause-state : goal.returns-clause-state
returns-clause-state g c =
    let opening = c.args.entries in
    let p = list_passed c.args.header.now c.args.verdicts.now opening
    (map envelope_of c.in_ok-jobs.jobs.items) c.args.list.now c.new.result c.new-2.result c.run_in_order.new.pass
    c.in_ok-jobs.ensures.same c.new.ensures.empty c.new-2.ensures (c.in_ok-run_in_order.ensures opening c.in_ok-jobs.ensures.done) in
    p.0

pub returns-clause-kept : goal.returns-clause-kept
returns-clause-kept g c =
    let opening = c.args.entries in
    let p = list_passed c.args.header.now c.args.verdicts.now opening
    (map envelope_of c.in_ok-jobs.jobs.items) c.args.list.now c.new.result c.new-2.result c.run_in_order.new.pass
    c.in_ok-jobs.ensures.same c.new.ensures.empty c.new-2.ensures (c.in_ok-run_in_order.ensures opening c.in_ok-jobs.ensures.done) in
    p.1
