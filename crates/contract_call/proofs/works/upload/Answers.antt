use Rattle.std.proofs.Common.{refl}
use Rattle.value_types.specs.Datum.{bytes}
use Rattle.call_spec.specs.Creating.{uploads}
use Rattle.call_spec.specs.HostFunctions.{MOST_FRAMES}
use Rattle.call_spec.specs.WholeRuns.{uploading}
use Rattle.contract_call.proofs.Working.{steps_around, steps_stay, viewed_as, work_does, same_declared}
use Rattle.call_host.proofs.Lemmas.{stays_opened}
use Rattle.contract_call.proofs.Ending.{ends_so, recorded_so}
use Rattle.contract_call.proofs.works.upload.Goals as goal

pub returns-clause-does : goal.returns-clause-does
returns-clause-does g c =
    let start = c.args.host.now in
    let next = c.mark.new.self in
    let ledger = c.upload_in-made.new.ledger in
    let old = record next { ledger = ledger } in
    let made = c.upload_in-made.result in
    work_does MOST_FRAMES c.in_ok-mark.mark made c.ended.result (λ hash. bytes hash.0) (uploading c.args.code.now) start next old c.ended.new.host refl
    c.in_ok-mark.ensures.mark c.in_ok-mark.ensures.ok (steps_stay next ledger c.upload_in-made.ensures.stays c.upload_in-made.ensures.later) (c.ended.ensures.does (λ hash. bytes hash.0) start)
    (viewed_as made (λ hash. hash) (λ hash. bytes hash.0) (λ env. uploads env c.args.code.now) next old
    (steps_around made (λ hash. hash) (λ env. uploads env c.args.code.now) next ledger c.upload_in-made.ensures.stays c.upload_in-made.ensures.does))

pub returns-clause-ends : goal.returns-clause-ends
returns-clause-ends g c = ends_so (uploading c.args.code.now) c.ended.result (λ hash. bytes hash.0) c.args.host.now c.ended.new.host c.requires.ready (returns-clause-does g c)

pub returns-clause-recorded : goal.returns-clause-recorded
returns-clause-recorded g c =
    let start = c.args.host.now in
    let next = c.mark.new.self in
    let old = record next { ledger = c.upload_in-made.new.ledger } in
    let stays = c.ended.ensures.stays start c.in_ok-mark.ensures.mark (stays_opened start next old c.in_ok-mark.ensures.ok (steps_stay next c.upload_in-made.new.ledger c.upload_in-made.ensures.stays c.upload_in-made.ensures.later)) in
    recorded_so (uploading c.args.code.now) c.ended.result (λ hash. bytes hash.0) start c.ended.new.host c.requires.ready (same_declared start c.ended.new.host stays) (returns-clause-does g c)
