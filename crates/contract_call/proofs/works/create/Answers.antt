use Rattle.std.proofs.Common.{None}
use Rattle.value_types.specs.Datum.{address}
use Rattle.value_types.specs.declared.address.ScAddress.TheVariants.{Contract}
use Rattle.call_spec.specs.Creating.{creates}
use Rattle.call_spec.specs.HostFunctions.{opener_of}
use Rattle.call_spec.specs.WholeRuns.{creating}
use Rattle.call_host.specs.Creations.{creation_of}
use Rattle.contract_call.proofs.Working.{has_room, viewed_as, work_does, same_declared}
use Rattle.call_host.proofs.Lemmas.{room_opened, stays_opened}
use Rattle.contract_call.proofs.Ending.{ends_so, recorded_so}
use Rattle.contract_call.proofs.works.create.Goals as goal

pub create-made-requires-clause-path : goal.create-made-requires-clause-path
create-made-requires-clause-path g c = has_room c.most_frames.result c.mark.new.self c.most_frames.ensures (room_opened 64 c.args.host.now c.mark.new.self c.in_ok-mark.ensures.ok c.requires.path)

pub returns-clause-does : goal.returns-clause-does
returns-clause-does g c =
    let start = c.args.host.now in
    let next = c.mark.new.self in
    work_does c.most_frames.result c.in_ok-mark.mark c.create-made.result c.ended.result (λ id. address (Contract id)) (creating (creation_of c.args.contract)) start next c.create-made.new.host c.ended.new.host
    c.most_frames.ensures c.in_ok-mark.ensures.mark c.in_ok-mark.ensures.ok c.create-made.ensures.stays (c.ended.ensures.does (λ id. address (Contract id)) start)
    (viewed_as c.create-made.result (λ id. id) (λ id. address (Contract id)) (λ env. creates env (opener_of env c.most_frames.result) None (creation_of c.args.contract)) next c.create-made.new.host c.create-made.ensures.does)

pub returns-clause-ends : goal.returns-clause-ends
returns-clause-ends g c = ends_so (creating (creation_of c.args.contract)) c.ended.result (λ id. address (Contract id)) c.args.host.now c.ended.new.host c.requires.ready (returns-clause-does g c)

pub returns-clause-recorded : goal.returns-clause-recorded
returns-clause-recorded g c =
    let start = c.args.host.now in
    let next = c.mark.new.self in
    let old = c.create-made.new.host in
    let stays = c.ended.ensures.stays start c.in_ok-mark.ensures.mark (stays_opened start next old c.in_ok-mark.ensures.ok c.create-made.ensures.stays) in
    recorded_so (creating (creation_of c.args.contract)) c.ended.result (λ id. address (Contract id)) start c.ended.new.host c.requires.ready (same_declared start c.ended.new.host stays) (returns-clause-does g c)
