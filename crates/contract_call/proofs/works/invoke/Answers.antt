use Rattle.value_types.specs.Views.{datum, datums}
use Rattle.call_spec.specs.WholeRuns.{calling}
use Rattle.contract_call.proofs.Working.{has_room, hosted_made, work_does, same_declared}
use Rattle.call_host.proofs.Lemmas.{room_opened, stays_opened}
use Rattle.contract_call.proofs.Ending.{ends_so, recorded_so}
use Rattle.contract_call.proofs.works.invoke.Goals as goal

pub call-made-requires-clause-path : goal.call-made-requires-clause-path
call-made-requires-clause-path g c = has_room c.most_frames.result c.mark.new.self c.most_frames.ensures (room_opened 64 c.args.host.now c.mark.new.self c.in_ok-mark.ensures.ok c.requires.path)

pub call-made-requires-clause-args : goal.call-made-requires-clause-args
call-made-requires-clause-args g c = hosted_made (datums c.args.args.items) c.requires.args

pub returns-clause-does : goal.returns-clause-does
returns-clause-does g c =
    let start = c.args.host.now in
    work_does c.most_frames.result c.in_ok-mark.mark c.call-made.result c.ended.result datum (calling c.args.contract c.args.function.now (datums c.args.args.items)) start c.mark.new.self c.call-made.new.host c.ended.new.host
    c.most_frames.ensures c.in_ok-mark.ensures.mark c.in_ok-mark.ensures.ok c.call-made.ensures.stays (c.ended.ensures.does datum start) c.call-made.ensures.does

pub returns-clause-ends : goal.returns-clause-ends
returns-clause-ends g c = ends_so (calling c.args.contract c.args.function.now (datums c.args.args.items)) c.ended.result datum c.args.host.now c.ended.new.host c.requires.ready (returns-clause-does g c)

pub returns-clause-recorded : goal.returns-clause-recorded
returns-clause-recorded g c =
    let start = c.args.host.now in
    let next = c.mark.new.self in
    let old = c.call-made.new.host in
    let stays = c.ended.ensures.stays start c.in_ok-mark.ensures.mark (stays_opened start next old c.in_ok-mark.ensures.ok c.call-made.ensures.stays) in
    recorded_so (calling c.args.contract c.args.function.now (datums c.args.args.items)) c.ended.result datum start c.ended.new.host c.requires.ready (same_declared start c.ended.new.host stays) (returns-clause-does g c)
